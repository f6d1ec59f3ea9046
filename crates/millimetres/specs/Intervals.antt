-- What a test leaves of an interval of lengths, and the laws of the meaning of millimetres.
use Rattle.std.specs.Prelude.{◌≡◌, ℕ, true, not, ◌&&◌, ℤ, pos, negsuc, ◌+ℤ◌, ◌≤ℤ◌, FitsSigned}
use Rattle.std.proofs.Common.{arith}
use Rattle.std.specs.Int.{int_min, int_max, w64}
use Rattle.std.proofs.lemmas.Int.{ints}
use Rattle.std.proofs.lemmas.Bool.Decides.{nat_tests}
use Rattle.measure.specs.Measure.{Lawful}
use Rattle.millimetres.specs.Millimetres.{interval, measurable, limit, millimetres}

module _ (s : ℕ) (low high : ℤ) (above : negsuc 999 ≤ℤ low) (below : high ≤ℤ pos 10000) where
  pub part_passing : (t n : ℤ) → interval s low (int_min high (limit s t)) n ≡ (interval s low high n && millimetres.passes s t n)
  part_passing t n = grind (arith, ints)

  pub part_failing : (t n : ℤ) → interval s (int_max low (limit s t +ℤ pos 1)) high n ≡ (interval s low high n && not (millimetres.passes s t n))
  part_failing t n = grind (arith, ints)

measurable_fits : (s : ℕ) (n : ℤ) → measurable s n ≡ true → FitsSigned w64 n
measurable_fits s (pos n) h = record { sfits = grind (arith, ints, nat_tests) }
measurable_fits s (negsuc n) h = record { sfits = grind (arith, ints, nat_tests) }

pub millimetres-Lawful : Lawful millimetres
millimetres-Lawful = record {
  sorts = λ s h. grind (arith, nat_tests);
  some_atom = λ s h. (pos 0, grind (arith, nat_tests));
  no_atom = λ s n b h. grind (arith, nat_tests);
  no_test = λ s t b h. grind (arith, nat_tests);
  passes_test = λ s t n h. grind (arith, nat_tests);
  passes_atom = λ s t n h. grind (arith, nat_tests);
  atom_fits = measurable_fits;
  test_fits = measurable_fits;
}
