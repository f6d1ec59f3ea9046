-- Two measures as one: sort 2s is sort s of the first, and sort 2s + 1 is sort s of the second.
use Rattle.std.specs.Prelude.{ℕ, ◌+◌, ◌*◌, ◌/◌, ◌%◌, Bool, cond, ◌&&◌, ℤ, ◌==◌, nat_lt}
use Rattle.measure.specs.Measure.{Measure}
use Rattle.either.specs.declared.Either.{Either}
use Rattle.either.specs.declared.Either.TheVariants.{Left, Right}

-- the measure that a sort comes from
abbrev pub side : Measure → Measure → ℕ → Measure
side a b s = cond (s % 2 == 0) a b

-- past 65,535 none is served
abbrev pub joined : Measure → Measure → Measure
joined a b = record {
  serves = λ s. nat_lt s 65536 && (side a b s).serves (s / 2);
  atom = λ s n. (side a b s).atom (s / 2) n;
  test = λ s t. (side a b s).test (s / 2) t;
  passes = λ s t n. (side a b s).passes (s / 2) t n;
}

module _ {X Y : Type 0} where
  -- the sort of a region, from that of each side's regions
  abbrev pub either_sort : (X → ℕ) → (Y → ℕ) → Either X Y → ℕ
  either_sort f g (Left x) = 2 * f x
  either_sort f g (Right y) = 2 * g y + 1

  -- what a region holds, from what each side's regions hold
  abbrev pub either_holds : (X → ℤ → Bool) → (Y → ℤ → Bool) → Either X Y → ℤ → Bool
  either_holds f g (Left x) n = f x n
  either_holds f g (Right y) n = g y n
