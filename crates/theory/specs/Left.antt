-- How much is left of a run: the open looks of one way through it, weighed.
use Rattle.std.specs.Prelude.{◌≡◌, ℕ, ◌+◌, ◌≤◌, max, Bool, Some, None}
use Rattle.measure.specs.Measure.{Measure}
use Rattle.rules.specs.Book.{Schema}
use Rattle.theory.specs.Runs.{Look, Run, done, look}
use Rattle.theory.specs.Knowledge.{Knowledge, tells}
use Rattle.theory.specs.Explore.{by_answer, More}
use Rattle.theory.specs.Settle.{Known, settle}

-- the most that the open looks of one way through a run weigh
abbrev pub left : (Look → ℕ) → Known → Run → ℕ
left weight known (done a) = 0
left weight known (look l y n) =
    by_answer (known l) (left weight known y) (left weight known n) (weight l + max (left weight known y) (left weight known n))

-- nothing is known
abbrev pub unknown : Known
unknown l = None

-- each look that is taken falls out of what is left of a run, whatever looks weigh: with weight 1 the search ends, and with the weights of rows so does a budget of rows
pub record LooksFall : Type 0 where
  -- where a run stops at a look, an answer that is told takes the look's weight off
  pub falls : (m : Measure) (d : Schema) (k j : Knowledge) (weight : Look → ℕ) (r : Run) (l : Look) (y n : Run) (b : Bool)
      → More m d k j → settle (tells m d k) r ≡ look l y n → tells m d j l ≡ Some b
      → weight l + left weight (tells m d j) r ≤ left weight (tells m d k) r
  -- and off what is left of both runs
  pub both_fall : (m : Measure) (d : Schema) (k j : Knowledge) (weight : Look → ℕ) (r other : Run) (l : Look) (y n : Run) (b : Bool)
      → More m d k j → settle (tells m d k) r ≡ look l y n → tells m d j l ≡ Some b
      → weight l + (left weight (tells m d j) r + left weight (tells m d j) other) ≤ left weight (tells m d k) r + left weight (tells m d k) other
  -- the look at which a run stops weighs no more than what is left
  pub affords : (m : Measure) (d : Schema) (k : Knowledge) (weight : Look → ℕ) (r : Run) (l : Look) (y n : Run)
      → settle (tells m d k) r ≡ look l y n → weight l ≤ left weight (tells m d k) r
  -- looks that are told weigh nothing
  pub settled : (m : Measure) (d : Schema) (k : Knowledge) (weight : Look → ℕ) (r : Run)
      → left weight (tells m d k) (settle (tells m d k) r) ≡ left weight (tells m d k) r
  -- more knowledge leaves no more
  pub shrinks : (m : Measure) (d : Schema) (k j : Knowledge) (weight : Look → ℕ) (r : Run)
      → More m d k j → left weight (tells m d j) r ≤ left weight (tells m d k) r
  -- never more than the run's own depth
  pub within : (m : Measure) (d : Schema) (k : Knowledge) (weight : Look → ℕ) (r : Run)
      → left weight (tells m d k) r ≤ left weight unknown r
