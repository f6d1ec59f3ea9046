-- What a kind of measure means: which sorts it serves, and the atoms and the tests of each.
use Rattle.std.specs.Prelude.{◌≡◌, ℕ, ◌<◌, Bool, true, false, not, ℤ, FitsSigned}
use Rattle.std.specs.Int.{w64}

-- `passes s t n`: the atom n of the sort s passes the test t
pub record Measure : Type 0 where
  pub serves : ℕ → Bool
  pub atom : ℕ → ℤ → Bool
  pub test : ℕ → ℤ → Bool
  pub passes : ℕ → ℤ → ℤ → Bool

-- what holds of the meaning of every kind; the sorts are the numbers below 65,536, and atoms and tests are signed 64-bit numbers
pub record Lawful (m : Measure) : Type 0 where
  pub sorts : (s : ℕ) → m.serves s ≡ true → s < 65536
  pub some_atom : (s : ℕ) → m.serves s ≡ true → (n : ℤ) × (m.atom s n ≡ true)
  pub no_atom : (s : ℕ) (n : ℤ) → s < 65536 → m.serves s ≡ false → m.atom s n ≡ false
  pub no_test : (s : ℕ) (t : ℤ) → s < 65536 → m.serves s ≡ false → m.test s t ≡ false
  pub passes_test : (s : ℕ) (t n : ℤ) → m.test s t ≡ false → m.passes s t n ≡ false
  pub passes_atom : (s : ℕ) (t n : ℤ) → m.atom s n ≡ false → m.passes s t n ≡ false
  pub atom_fits : (s : ℕ) (n : ℤ) → m.atom s n ≡ true → FitsSigned w64 n
  pub test_fits : (s : ℕ) (t : ℤ) → m.test s t ≡ true → FitsSigned w64 t

-- whether an answer is the wanted one: `gives wanted answer`
abbrev pub gives : Bool → Bool → Bool
gives true b = b
gives false b = not b
