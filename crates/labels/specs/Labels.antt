-- Labels 0 to m - 1, as sort 0; a test is a set of labels, by the binary digits of a number.
use Rattle.std.specs.Prelude.{ℕ, ◌^◌, Bool, false, ◌&&◌, ℤ, pos, negsuc, ◌==◌, nat_lt}
use Rattle.std.specs.Int.{bit_at}
use Rattle.measure.specs.Measure.{Measure}

-- whether the binary digit of weight 2 ^ n is 1
abbrev pub digit : ℕ → ℕ → Bool
digit n x = bit_at x n == 1

-- whether z is one of 0 to m - 1
abbrev pub under : ℕ → ℤ → Bool
under m (pos n) = nat_lt n m
under m (negsuc n) = false

-- whether the set t holds n
abbrev pub chosen : ℤ → ℤ → Bool
chosen (pos t) (pos n) = digit n t
chosen (pos t) (negsuc n) = false
chosen (negsuc t) n = false

-- the measure of m labels
abbrev pub labels : ℕ → Measure
labels m = record {
  serves = λ s. (s == 0);
  atom = λ s n. (s == 0) && under m n;
  test = λ s t. (s == 0) && under (2 ^ m) t;
  passes = λ s t n. (s == 0 && under (2 ^ m) t) && (under m n && chosen t n);
}

-- whether n is a label of the set, in sort 0
abbrev pub masked : ℕ → ℕ → ℕ → ℤ → Bool
masked s m bits n = s == 0 && (under m n && chosen (pos bits) n)
