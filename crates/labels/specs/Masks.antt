-- What a set of labels holds, for every number, and the laws of the meaning of labels.
use Rattle.std.specs.Prelude.{◌≡◌, ℕ, ◌-◌, ◌^◌, ◌<◌, ◌≤◌, true, not, ◌&&◌, ℤ, pos, negsuc, FitsSigned, ◌==◌, bit_and, bit_xor, refl}
use Rattle.std.proofs.Common.{arith, pow_mono}
use Rattle.std.specs.Int.{w64, bit_not}
use Rattle.std.proofs.lemmas.Bool.{and_parts}
use Rattle.std.proofs.lemmas.Bool.Decides.{nat_tests}
use Rattle.measure.specs.Measure.{Lawful}
use Rattle.labels.specs.Labels.{under, chosen, labels}
use Rattle.labels.specs.Digits.{digit_and, digit_less, digit_not, ones_digit}

pub chosen_and : (a b : ℕ) (n : ℤ) → chosen (pos (bit_and a b)) n ≡ (chosen (pos a) n && chosen (pos b) n)
chosen_and a b (pos n) = digit_and n a b
chosen_and a b (negsuc n) = refl

pub chosen_less : (a b : ℕ) (n : ℤ) → chosen (pos (bit_xor a (bit_and a b))) n ≡ (chosen (pos a) n && not (chosen (pos b) n))
chosen_less a b (pos n) = digit_less n a b
chosen_less a b (negsuc n) = refl

pub chosen_not : (b : ℕ) (n : ℤ) → b < 2 ^ 64 → under 64 n ≡ true → chosen (pos (bit_not w64 b)) n ≡ not (chosen (pos b) n)
chosen_not b (pos n) h l = digit_not n b h (grind (arith, nat_tests))
chosen_not b (negsuc n) h l = grind arith

pub chosen_all : (m : ℕ) (n : ℤ) → (under m n && chosen (pos (2 ^ m - 1)) n) ≡ under m n
chosen_all m (pos n) = grind (arith, nat_tests, ones_digit)
chosen_all m (negsuc n) = refl

under_fits : (m : ℕ) (z : ℤ) → m ≤ 2 ^ 63 → under m z ≡ true → FitsSigned w64 z
under_fits m (pos n) b h = record { sfits = grind (arith, nat_tests) }
under_fits m (negsuc n) b h = grind arith

pub labels-Lawful : (m : ℕ) → 1 ≤ m → m ≤ 63 → Lawful (labels m)
labels-Lawful m some few = record {
  sorts = λ s h. grind (arith, nat_tests);
  some_atom = λ s h. (pos 0, grind (arith, nat_tests));
  no_atom = λ s n b h. grind (arith, nat_tests);
  no_test = λ s t b h. grind (arith, nat_tests);
  passes_test = λ s t n h. grind (arith, nat_tests);
  passes_atom = λ s t n h. grind (arith, nat_tests);
  atom_fits = λ s n h. under_fits m n (omega arith) (and_parts (s == 0) (under m n) h).1;
  test_fits = λ s t h. under_fits (2 ^ m) t (pow_mono few) (and_parts (s == 0) (under (2 ^ m) t) h).1;
}
