-- Parts of values: places that are the same, the fields of a typed value, and values of a list of types.
use Rattle.std.proofs.Common.{◌≡◌, ℕ, zero, suc, true, ◌&&◌, eqb, List, [], ◌∷◌, Some, refl, subst, ap₂}
use Rattle.std.specs.List.{slice_get}
use Rattle.std.proofs.lemmas.Bool.{false≢true, and_parts, and_from, eq-eqb, eqb-true}
use Rattle.measure.specs.Measure.{Measure}
use Rattle.rules.specs.Book.{Schema}
use Rattle.rules.specs.Garments.{Value, Values, no_values, with_value, Place, whole, below, field_at, OfType, OfTypes}
use Rattle.theory.specs.Knowledge.{same_place}
use Rattle.std.proofs.lemmas.Option.{none-some, same_Some}

pub same_place_lem : (p q : Place) → same_place p q ≡ true → p ≡ q
same_place_lem whole whole e = refl
same_place_lem whole (below q s) e = absurd (false≢true e)
same_place_lem (below p r) whole e = absurd (false≢true e)
same_place_lem (below p r) (below q s) e =
    let two = and_parts (same_place p q) (eqb r.constructor s.constructor && eqb r.field s.field) e in
    let steps = and_parts (eqb r.constructor s.constructor) (eqb r.field s.field) two.1 in
    ap₂ below (same_place_lem p q two.0) (same_step (eqb-true r.constructor s.constructor steps.0) (eqb-true r.field s.field steps.1))
  where
    same_step : r.constructor ≡ s.constructor → r.field ≡ s.field → r ≡ s
    same_step e f = ap₂ (λ (c i : ℕ). record { constructor = c; field = i }) e f

pub place_same : (p : Place) → same_place p p ≡ true
place_same whole = refl
place_same (below p s) =
    and_from (same_place p p) (eqb s.constructor s.constructor && eqb s.field s.field) (place_same p)
    (and_from (eqb s.constructor s.constructor) (eqb s.field s.field) (eq-eqb s.constructor s.constructor refl) (eq-eqb s.field s.field refl))

module _ (m : Measure) (d : Schema) where
  -- a field that the constructor has stands in the value, and is of the field's type
  pub field_typed : (ts : List ℕ) (vs : Values) (i t : ℕ) → OfTypes m d ts vs → slice_get ts i ≡ Some t → (u : Value) × ((field_at vs i ≡ Some u) × OfType m d t u)
  field_typed [] vs i t w e = absurd (none-some t e)
  field_typed (t₁ ∷ ts) no_values i t w e = absurd w
  field_typed (t₁ ∷ ts) (with_value v vs) zero t w e = (v, (refl, subst (λ x. OfType m d x v) (same_Some t₁ t e) w.0))
  field_typed (t₁ ∷ ts) (with_value v vs) (suc i) t w e = field_typed ts vs i t w.1 e

  -- a value for each type of a list, each with a property
  pub values_for : (Good : ℕ → Value → Type 0) (ts : List ℕ) → ((i t : ℕ) → slice_get ts i ≡ Some t → (v : Value) × (OfType m d t v × Good i v))
      → (vs : Values) × (OfTypes m d ts vs × ((i : ℕ) (u : Value) → field_at vs i ≡ Some u → Good i u))
  values_for Good [] each = (no_values, (tt, λ i u e. absurd (none-some u e)))
  values_for Good (t ∷ ts) each =
      let first = each 0 t refl in
      let rest = values_for (λ i. Good (suc i)) ts (λ i. each (suc i)) in
      (with_value first.0 rest.0, ((first.1.0, rest.1.0), at_field first.0 rest.0 first.1.1 rest.1.1))
    where
      at_field : (v : Value) (vs : Values) → Good 0 v → ((i : ℕ) (u : Value) → field_at vs i ≡ Some u → Good (suc i) u)
          → (i : ℕ) (u : Value) → field_at (with_value v vs) i ≡ Some u → Good i u
      at_field v vs g rest zero u e = subst (λ x. Good 0 x) (same_Some v u e) g
      at_field v vs g rest (suc i) u e = rest i u e
