-- What holds of all knowledge that an exploration ends with.
use Rattle.std.proofs.Common.{◌≡◌, Bool, true, false, cond, Some, None, Option, subst}
use Rattle.measure.specs.Measure.{Measure}
use Rattle.rules.specs.Book.{Schema}
use Rattle.rules.specs.Sheets.{Answer}
use Rattle.theory.specs.Runs.{Look, Run, done, look}
use Rattle.theory.specs.Knowledge.{Knowledge, learn, tells}
use Rattle.theory.specs.Explore.{same, Verdict, alike, differs, or_next, by_answer, explore_second, explore}
use Rattle.shown.specs.Budgets.{EveryLook}

-- what holds of the knowledge of every difference of a verdict
abbrev pub Each : (Knowledge → Type 0) → Verdict → Type 0
Each P alike = Unit {0}
Each P (differs j a b) = P j

module _ (P : Knowledge → Type 0) where
  pub next_Each : (u v : Verdict) → Each P u → Each P v → Each P (or_next u v)
  next_Each alike v h k = k
  next_Each (differs j a b) v h k = h

  pub answer_Each : (o : Option Bool) (y n z : Verdict) → Each P y → Each P n → Each P z → Each P (by_answer o y n z)
  answer_Each None y n z h i j = j
  answer_Each (Some true) y n z h i j = h
  answer_Each (Some false) y n z h i j = i

  pub same_Each : (t : Bool) (k : Knowledge) (a b : Answer) → P k → Each P (cond t alike (differs k a b))
  same_Each true k a b h = tt
  same_Each false k a b h = h

  pub Each-differs : (v : Verdict) (j : Knowledge) (a b : Answer) → Each P v → v ≡ differs j a b → P j
  Each-differs v j a b h e = subst (λ (z : Verdict). Each P z) e h

-- what learning any look of both runs keeps
module _ (m : Measure) (d : Schema) (Ok : Look → Type 0) (P : Knowledge → Type 0) (learns : (k : Knowledge) (l : Look) (b : Bool) → Ok l → P k → P (learn k l b)) where
  second_all : (r : Run) (k : Knowledge) (a : Answer) → EveryLook Ok r → P k → Each P (explore_second m d k a r)
  second_all (done b) k a h i = same_Each P (same a b) k a b i
  second_all (look l y n) k a h i =
      answer_Each P (tells m d k l) (explore_second m d k a y) (explore_second m d k a n) (or_next (explore_second m d (learn k l true) a y) (explore_second m d (learn k l false) a n))
      (second_all y k a h.1.0 i) (second_all n k a h.1.1 i)
      (next_Each P (explore_second m d (learn k l true) a y) (explore_second m d (learn k l false) a n)
      (second_all y (learn k l true) a h.1.0 (learns k l true h.0 i)) (second_all n (learn k l false) a h.1.1 (learns k l false h.0 i)))

  first_all : (r s : Run) (k : Knowledge) → EveryLook Ok r → EveryLook Ok s → P k → Each P (explore m d k r s)
  first_all (done a) s k h g i = second_all s k a g i
  first_all (look l y n) s k h g i =
      answer_Each P (tells m d k l) (explore m d k y s) (explore m d k n s) (or_next (explore m d (learn k l true) y s) (explore m d (learn k l false) n s))
      (first_all y s k h.1.0 g i) (first_all n s k h.1.1 g i)
      (next_Each P (explore m d (learn k l true) y s) (explore m d (learn k l false) n s)
      (first_all y s (learn k l true) h.1.0 g (learns k l true h.0 i)) (first_all n s (learn k l false) h.1.1 g (learns k l false h.0 i)))

  pub explored_all : (k j : Knowledge) (first second : Run) (a b : Answer) → EveryLook Ok first → EveryLook Ok second → P k → explore m d k first second ≡ differs j a b → P j
  explored_all k j first second a b h g i e = Each-differs P (explore m d k first second) j a b (first_all first second k h g i) e
