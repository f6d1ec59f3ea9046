-- What holds of all that is ever known while two runs are explored.
use Rattle.std.proofs.Common.{ℕ, ◌+◌, ◌≤◌, Bool, true, false, arith}
use Rattle.theory.specs.Runs.{Look, Run, done, look}
use Rattle.theory.specs.Knowledge.{Knowledge, learn}
use Rattle.shown.specs.Budgets.{most_on_path, EveryLook, learnt, SecondAlways, Always}

-- what learning any look keeps
module _ (Ok : Look → Type 0) (P : Knowledge → Type 0) (learns : (k : Knowledge) (l : Look) (b : Bool) → Ok l → P k → P (learn k l b)) where
  second_always : (r : Run) (k : Knowledge) → EveryLook Ok r → P k → SecondAlways P k r
  second_always (done a) k h i = i
  second_always (look l y n) k h i = (
    i,
    (
      (second_always y k h.1.0 i, second_always n k h.1.1 i),
      (second_always y (learn k l true) h.1.0 (learns k l true h.0 i), second_always n (learn k l false) h.1.1 (learns k l false h.0 i)),
    ),
  )

  pub always : (r s : Run) (k : Knowledge) → EveryLook Ok r → EveryLook Ok s → P k → Always P k r s
  always (done a) s k h g i = second_always s k g i
  always (look l y n) s k h g i = (
    i,
    (
      (always y s k h.1.0 g i, always n s k h.1.1 g i),
      (always y s (learn k l true) h.1.0 g (learns k l true h.0 i), always n s (learn k l false) h.1.1 g (learns k l false h.0 i)),
    ),
  )

-- what is counted on one way, in two ways at once
module _ (count count' : Look → ℕ) (n n' : ℕ) where
  abbrev Few : Knowledge → Type 0
  Few k = (learnt count k ≤ n) × (learnt count' k ≤ n')

  second_Few : (r : Run) (k : Knowledge) → learnt count k + most_on_path count r ≤ n → learnt count' k + most_on_path count' r ≤ n' → SecondAlways Few k r
  second_Few (done a) k h h' = (omega arith, omega arith)
  second_Few (look l x y) k h h' = (
    (omega arith, omega arith),
    (
      (second_Few x k (omega arith) (omega arith), second_Few y k (omega arith) (omega arith)),
      (second_Few x (learn k l true) (omega arith) (omega arith), second_Few y (learn k l false) (omega arith) (omega arith)),
    ),
  )

  pub Always-Few : (r s : Run) (k : Knowledge) → learnt count k + (most_on_path count r + most_on_path count s) ≤ n → learnt count' k + (most_on_path count' r + most_on_path count' s) ≤ n' → Always Few k r s
  Always-Few (done a) s k h h' = second_Few s k (omega arith) (omega arith)
  Always-Few (look l x y) s k h h' = (
    (omega arith, omega arith),
    (
      (Always-Few x s k (omega arith) (omega arith), Always-Few y s k (omega arith) (omega arith)),
      (Always-Few x s (learn k l true) (omega arith) (omega arith), Always-Few y s (learn k l false) (omega arith) (omega arith)),
    ),
  )
