-- Whether some signed 64-bit number passes a test: from one that passes, to one that passes, and from test to test.
use Rattle.std.proofs.Common.{◌≡◌, ℕ, zero, suc, ◌^◌, ◌<◌, Bool, true, false, ◌||◌, ℤ, sym, refl, ap, ◌∙◌, not-suc-le-zero, arith, to_z-of_z, w64, SFits, to_z, of_z}
use Rattle.std.proofs.Math.Decide.{ℕ_discrete}
use Rattle.std.proofs.Math.Facts.{Fits-of_z}
use Rattle.std.proofs.lemmas.Bool.{false≢true, or_left, or_right}
use Rattle.measure.specs.Measure.{Measure, Lawful}
use Rattle.theory.specs.Inhabited.{any_of, any_atom}

some_below : (n : ℕ) (test : ℕ → Bool) (k : ℕ) → k < n → test k ≡ true → any_of n test ≡ true
unfolding any_of
some_below zero test k l h = absurd (not-suc-le-zero l)
some_below (suc n) test k l h = go (ℕ_discrete k n) (λ e. some_below n test k e h)
  where
    go : Dec (k ≡ n) → (k < n → any_of n test ≡ true) → (test n || any_of n test) ≡ true
    go (yes e) rest = or_left (test n) (any_of n test) (ap test (sym e) ∙ h)
    go (no e) rest = or_right (test n) (any_of n test) (rest (omega arith))

which_below : (n : ℕ) (test : ℕ → Bool) → any_of n test ≡ true → (k : ℕ) × ((k < n) × (test k ≡ true))
unfolding any_of
which_below zero test h = absurd (false≢true h)
which_below (suc n) test h = go (test n) refl h (which_below n test)
  where
    go : (b : Bool) → test n ≡ b → (b || any_of n test) ≡ true → (any_of n test ≡ true → (k : ℕ) × ((k < n) × (test k ≡ true)))
        → (k : ℕ) × ((k < suc n) × (test k ≡ true))
    go true e q rest = (n, (omega arith, e))
    go false e q rest = let r = rest q in let l : r.0 < n = r.1.0 in (r.0, (omega arith, r.1.1))

pub any_from : (test : ℤ → Bool) (a : ℤ) → SFits w64 a → test a ≡ true → any_atom test ≡ true
unfolding any_atom
any_from test a f h =
    some_below (2 ^ 64) (λ k. test (to_z w64 k)) (of_z w64 a) (Fits-of_z {w = w64} {z = a} f).fits (ap test (to_z-of_z {w = w64} {z = a} f) ∙ h)

pub any_to : (test : ℤ → Bool) → any_atom test ≡ true → (a : ℤ) × (test a ≡ true)
unfolding any_atom
any_to test h = let r = which_below (2 ^ 64) (λ k. test (to_z w64 k)) h in (to_z w64 r.0, r.1.1)

-- a test that passes less
pub any_less : (test wider : ℤ → Bool) → ((a : ℤ) → test a ≡ true → wider a ≡ true) → any_atom test ≡ true → any_atom wider ≡ true
unfolding any_atom
any_less test wider more h =
    let r = which_below (2 ^ 64) (λ k. test (to_z w64 k)) h in
    some_below (2 ^ 64) (λ k. wider (to_z w64 k)) r.0 r.1.0 (more (to_z w64 r.0) r.1.1)

pub any_none : (test : ℤ → Bool) → ((a : ℤ) → test a ≡ true → ⊥) → any_atom test ≡ false
any_none test never = go (any_atom test) refl
  where
    go : (b : Bool) → any_atom test ≡ b → b ≡ false
    go true e = let r = any_to test e in absurd (never r.0 r.1)
    go false e = refl

-- a sort that is served has an atom; one below 65,536 that is not served has none
pub any_served : (m : Measure) → Lawful m → (s : ℕ) → s < 65536 → any_atom (m.atom s) ≡ m.serves s
any_served m law s small = go (m.serves s) refl
  where
    go : (b : Bool) → m.serves s ≡ b → any_atom (m.atom s) ≡ b
    go true e = let r = law.some_atom s e in any_from (m.atom s) r.0 (law.atom_fits s r.0 r.1) r.1
    go false e = any_none (m.atom s) (λ a h. false≢true (sym (law.no_atom s a small e) ∙ h))
