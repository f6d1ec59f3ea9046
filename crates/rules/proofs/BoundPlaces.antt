-- Every place that a match binds stands in the value, and has a part.
use Rattle.std.proofs.Common.{◌≡◌, ℕ, suc, ◌+◌, Bool, true, false, cond, ◌&&◌, eqb, List, is_some, Some, None, sym, refl, ap, ◌∙◌, subst, add-zero, zero-add, arith}
use Rattle.std.specs.List.{AllByRecursion, All}
use Rattle.std.proofs.lemmas.Bool.{eqb-true, eq-eqb, and_from}
use Rattle.measure.specs.Measure.{Measure, gives}
use Rattle.rules.specs.Garments.{Value, Values, built, measured, no_values, with_value, Place, whole, field_at, step_into, part_at, built_by, stands}
use Rattle.rules.specs.Sheets.{Pattern, Patterns, any, bind, build, either, gauge, no_patterns, with_pattern, Binding, Bound, both, or_else, binding, field, matches, matches_all}
use Rattle.rules.specs.PlaceLaws.{Found, PlacesAreSteps}
use Rattle.rules.proofs.PlaceSteps.{same_place, walked, standing_fits, fits_standing, part_stands}
use Rattle.rules.proofs.Lists.{AllByRecursion-append}
use Rattle.std.proofs.lemmas.List.Elements.{All-from_recursion}

next : (i j : ℕ) → suc i + j ≡ i + suc j
next i j = omega arith

-- what is bound, if anything is, is found in the value v
abbrev Finds : Value → Bound → Type 0
Finds v None = Unit {0}
Finds v (Some bs) = AllByRecursion (λ k. Found v k.place) bs

Finds-both : (v : Value) (a b : Bound) → Finds v a → Finds v b → Finds v (both a b)
Finds-both v None b h k = tt
Finds-both v (Some xs) None h k = tt
Finds-both v (Some xs) (Some ys) h k = AllByRecursion-append (λ z. Found v z.place) xs ys h k

Finds-either : (v : Value) (a b : Bound) → Finds v a → Finds v b → Finds v (or_else a b)
Finds-either v None b h k = k
Finds-either v (Some xs) b h k = h

Finds-binding : (v : Value) (x : ℕ) (p : Place) (a : Bound) → Found v p → Finds v a → Finds v (binding x p a)
Finds-binding v x p None f h = tt
Finds-binding v x p (Some xs) f h = (f, h)

Finds-if : (v : Value) (b : Bool) (a : Bound) → (b ≡ true → Finds v a) → Finds v (cond b a None)
Finds-if v true a h = h refl
Finds-if v false a h = tt

-- a place stands, and holds this part
abbrev Holds : Value → Place → Value → Type 0
Holds v p part = (stands v p ≡ true) × (part_at v p ≡ Some part)

found : (v : Value) (p : Place) (part : Value) → Holds v p part → Found v p
found v p part h = (h.0, ap is_some h.1)

-- the fields of a built part
field_stands : (v : Value) (p : Place) (c d : ℕ) (vs : Values) → Holds v p (built d vs) → d ≡ c → (stands v p && built_by c (part_at v p)) ≡ true
field_stands v p c d vs h e = and_from (stands v p) (built_by c (part_at v p)) h.0 (ap (built_by c) h.1 ∙ eq-eqb d c e)

field_part : (v : Value) (p : Place) (c d : ℕ) (vs : Values) → Holds v p (built d vs) → d ≡ c → (j : ℕ) → part_at v (field p c j) ≡ field_at vs j
field_part v p c d vs h e j = ap (step_into (record { constructor = c; field = j })) h.1 ∙ ap (λ b. cond b (field_at vs j) None) (eq-eqb d c e)

module _ (m : Measure) (v : Value) where
  mutual
    finds : (q : Pattern) (p : Place) (part : Value) → Holds v p part → Finds v (matches m q p part)
    finds (any t) p part h = tt
    finds (bind x q) p part h = Finds-binding v x p (matches m q p part) (found v p part h) (finds q p part h)
    finds (build c qs) p (built d vs) h =
        Finds-if v (eqb d c) (matches_all m qs p c 0 vs)
        (λ e. finds_all qs p c 0 vs (field_stands v p c d vs h (eqb-true d c e)) (λ j. ap (λ n. part_at v (field p c n)) (zero-add j) ∙ field_part v p c d vs h (eqb-true d c e) j))
    finds (build c qs) p (measured s a) h = tt
    finds (either l r) p part h = Finds-either v (matches m l p part) (matches m r p part) (finds l p part h) (finds r p part h)
    finds (gauge t w q) p (built d vs) h = tt
    finds (gauge t w q) p (measured s a) h = Finds-if v (gives w (m.passes s t a)) (matches m q p (measured s a)) (λ e. finds q p (measured s a) h)

    -- the values vs are the fields from field i on
    finds_all : (qs : Patterns) (p : Place) (c i : ℕ) (vs : Values) → (stands v p && built_by c (part_at v p)) ≡ true
        → ((j : ℕ) → part_at v (field p c (i + j)) ≡ field_at vs j) → Finds v (matches_all m qs p c i vs)
    finds_all no_patterns p c i no_values h k = tt
    finds_all no_patterns p c i (with_value w vs) h k = tt
    finds_all (with_pattern q qs) p c i no_values h k = tt
    finds_all (with_pattern q qs) p c i (with_value w vs) h k =
        Finds-both v (matches m q (field p c i) w) (matches_all m qs p c (suc i) vs)
        (finds q (field p c i) w (h, ap (λ n. part_at v (field p c n)) (sym (add-zero i)) ∙ k 0))
        (finds_all qs p c (suc i) vs h (λ j. ap (λ n. part_at v (field p c n)) (next i j) ∙ k (suc j)))

pub bound_Found : (m : Measure) (q : Pattern) (v : Value) (bs : List Binding) → matches m q whole v ≡ Some bs → All (λ k. Found v k.place) bs
bound_Found m q v bs e = All-from_recursion (λ k. Found v k.place) bs (subst (Finds v) e (finds m v q whole v (refl, refl)))

pub places_are_steps : PlacesAreSteps
places_are_steps = record {
  same_place = same_place;
  same_part = λ v p q e. ap (part_at v) (same_place p q e);
  walked = walked;
  fits = standing_fits;
  standing = fits_standing;
  part_stands = part_stands;
  bound_Found = bound_Found;
}
