-- Places are their steps: what stands at a place is found by walking, and what a match binds stands.
use Rattle.std.specs.Prelude.{◌≡◌, true, List, ◌∷◌, ◌++◌, is_some, Some}
use Rattle.std.specs.List.{All}
use Rattle.measure.specs.Measure.{Measure}
use Rattle.guards.specs.declared.step.Step.{Step}
use Rattle.guards.specs.Questions.{Steps}
use Rattle.rules.specs.Garments.{Value, Place, whole, part_at, built_by, stands, steps_of, walk}
use Rattle.rules.specs.Sheets.{Pattern, Binding, matches}

-- each step, after the steps before it, names the constructor found there
abbrev pub EachStepFits : Value → Steps → Type 0
EachStepFits v steps =
    (before : Steps) (s : Step) (after : Steps) → steps ≡ before ++ s ∷ after → built_by s.constructor (walk (Some v) before) ≡ true

-- a place stands, and has a part
abbrev pub Found : Value → Place → Type 0
Found v p = (stands v p ≡ true) × (is_some (part_at v p) ≡ true)

pub record PlacesAreSteps : Type 0 where
  -- places with equal steps are the same place, and have the same part
  pub same_place : (p q : Place) → steps_of p ≡ steps_of q → p ≡ q
  pub same_part : (v : Value) (p q : Place) → steps_of p ≡ steps_of q → part_at v p ≡ part_at v q
  -- the part at a place is found by walking its steps
  pub walked : (v : Value) (p : Place) → part_at v p ≡ walk (Some v) (steps_of p)
  -- a place stands exactly where each of its steps fits
  pub fits : (v : Value) (p : Place) → stands v p ≡ true → EachStepFits v (steps_of p)
  pub standing : (v : Value) (p : Place) → EachStepFits v (steps_of p) → stands v p ≡ true
  -- a place that has a part stands
  pub part_stands : (v : Value) (p : Place) → is_some (part_at v p) ≡ true → stands v p ≡ true
  -- every place that a match binds stands in the value, and has a part
  pub bound_Found : (m : Measure) (q : Pattern) (v : Value) (bs : List Binding) → matches m q whole v ≡ Some bs → All (λ k. Found v k.place) bs
