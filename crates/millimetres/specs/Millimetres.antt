-- Lengths from -1,000 to 10,000 mm, as sort 0; a test is passed by the lengths of at most it.
use Rattle.std.specs.Prelude.{ℕ, Bool, cond, ◌&&◌, ℤ, pos, negsuc, ◌==◌, int_le}
use Rattle.measure.specs.Measure.{Measure}

-- whether n lies from low to high, in sort 0
abbrev pub interval : ℕ → ℤ → ℤ → ℤ → Bool
interval s low high n = s == 0 && (int_le low n && int_le n high)

-- a length that is measured: both an atom and a test
abbrev pub measurable : ℕ → ℤ → Bool
measurable s n = interval s (negsuc 999) (pos 10000) n

abbrev pub millimetres : Measure
millimetres = record {
  serves = λ s. (s == 0);
  atom = λ s n. measurable s n;
  test = λ s t. measurable s t;
  passes = λ s t n. measurable s t && (measurable s n && int_le n t);
}

-- the greatest length that passes a test: below all of them where t is no test
abbrev pub limit : ℕ → ℤ → ℤ
limit s t = cond (measurable s t) t (negsuc 1000)
