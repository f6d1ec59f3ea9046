-- Places against their steps: a place is rebuilt from its steps, and a walk along them finds its part.
use Rattle.std.proofs.Common.{◌≡◌, Bool, true, false, cond, ◌&&◌, [], ◌∷◌, ◌++◌, is_some, Some, None, Option, sym, refl, ap, ◌∙◌, ap₂}
use Rattle.std.proofs.lemmas.Bool.{and_from, and_parts, false≢true}
use Rattle.guards.specs.declared.step.Step.{Step}
use Rattle.guards.specs.Questions.{Steps}
use Rattle.rules.specs.Garments.{Value, built, measured, Place, whole, below, step_into, part_at, built_by, stands, steps_of, walk}
use Rattle.rules.specs.PlaceLaws.{EachStepFits}
use Rattle.std.proofs.Math.Bool.{and-true, and_assoc}

-- ── the place that steps lead to ──

abbrev place_below : Place → Steps → Place
place_below p [] = p
place_below p (s ∷ ss) = place_below (below p s) ss

one_more : (p : Place) (ss : Steps) (s : Step) → place_below p (ss ++ s ∷ []) ≡ below (place_below p ss) s
one_more p [] s = refl
one_more p (x ∷ ss) s = one_more (below p x) ss s

rebuilt : (p : Place) → place_below whole (steps_of p) ≡ p
rebuilt whole = refl
rebuilt (below p s) = one_more whole (steps_of p) s ∙ ap (λ q. below q s) (rebuilt p)

pub same_place : (p q : Place) → steps_of p ≡ steps_of q → p ≡ q
same_place p q e = sym (rebuilt p) ∙ ap (place_below whole) e ∙ rebuilt q

-- ── the part that steps lead to ──

walk_more : (o : Option Value) (ss : Steps) (s : Step) → walk o (ss ++ s ∷ []) ≡ step_into s (walk o ss)
walk_more o [] s = refl
walk_more o (x ∷ ss) s = walk_more (step_into x o) ss s

pub walked : (v : Value) (p : Place) → part_at v p ≡ walk (Some v) (steps_of p)
walked v whole = refl
walked v (below p s) = ap (step_into s) (walked v p) ∙ sym (walk_more (Some v) (steps_of p) s)

-- ── steps that fit ──

-- whether each step names the constructor found on the way
abbrev fitting : Option Value → Steps → Bool
fitting o [] = true
fitting o (s ∷ ss) = built_by s.constructor o && fitting (step_into s o) ss

fitting_more : (o : Option Value) (ss : Steps) (s : Step) → fitting o (ss ++ s ∷ []) ≡ (fitting o ss && built_by s.constructor (walk o ss))
fitting_more o [] s = and-true (built_by s.constructor o)
fitting_more o (x ∷ ss) s =
    ap (λ b. built_by x.constructor o && b) (fitting_more (step_into x o) ss s)
    ∙ sym (and_assoc (built_by x.constructor o) (fitting (step_into x o) ss) (built_by s.constructor (walk (step_into x o) ss)))

stands-fitting : (v : Value) (p : Place) → stands v p ≡ fitting (Some v) (steps_of p)
stands-fitting v whole = refl
stands-fitting v (below p s) =
    ap₂ (λ a o. a && built_by s.constructor o) (stands-fitting v p) (walked v p) ∙ sym (fitting_more (Some v) (steps_of p) s)

fitting_at : (o : Option Value) (before : Steps) (s : Step) (after : Steps) → fitting o (before ++ s ∷ after) ≡ true → built_by s.constructor (walk o before) ≡ true
fitting_at o [] s after h = (and_parts (built_by s.constructor o) (fitting (step_into s o) after) h).0
fitting_at o (x ∷ before) s after h =
    fitting_at (step_into x o) before s after (and_parts (built_by x.constructor o) (fitting (step_into x o) (before ++ s ∷ after)) h).1

fitting_all : (o : Option Value) (ss : Steps)
    → ((before : Steps) (s : Step) (after : Steps) → ss ≡ before ++ s ∷ after → built_by s.constructor (walk o before) ≡ true) → fitting o ss ≡ true
fitting_all o [] h = refl
fitting_all o (s ∷ ss) h =
    and_from (built_by s.constructor o) (fitting (step_into s o) ss) (h [] s ss refl)
    (fitting_all (step_into s o) ss (λ before x after e. h (s ∷ before) x after (ap (λ l. s ∷ l) e)))

pub standing_fits : (v : Value) (p : Place) → stands v p ≡ true → EachStepFits v (steps_of p)
standing_fits v p h before s after e = fitting_at (Some v) before s after (ap (fitting (Some v)) (sym e) ∙ sym (stands-fitting v p) ∙ h)

pub fits_standing : (v : Value) (p : Place) → EachStepFits v (steps_of p) → stands v p ≡ true
fits_standing v p h = stands-fitting v p ∙ fitting_all (Some v) (steps_of p) h

-- ── a part is found only where each step fits ──

if_some : (b : Bool) (o : Option Value) → is_some (cond b o None) ≡ true → b ≡ true
if_some true o h = refl
if_some false o h = absurd (false≢true h)

step_fits : (s : Step) (o : Option Value) → is_some (step_into s o) ≡ true → (is_some o ≡ true) × (built_by s.constructor o ≡ true)
step_fits s None h = absurd (false≢true h)
step_fits s (Some (measured k a)) h = absurd (false≢true h)
step_fits s (Some (built c vs)) h = (refl, if_some _ _ h)

pub part_stands : (v : Value) (p : Place) → is_some (part_at v p) ≡ true → stands v p ≡ true
part_stands v whole h = refl
part_stands v (below p s) h =
    let f = step_fits s (part_at v p) h in
    and_from (stands v p) (built_by s.constructor (part_at v p)) (part_stands v p f.0) f.1
