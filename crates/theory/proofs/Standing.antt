-- A place that is reached stands in every well-typed value whose constructors at such places are candidates.
use Rattle.std.proofs.Common.{◌≡◌, ℕ, suc, ◌<◌, true, ◌&&◌, eqb, is_some, Some, None, Option, sym, refl, ap, ◌∙◌, subst, arith}
use Rattle.std.specs.List.{slice_get}
use Rattle.std.proofs.lemmas.Bool.{false≢true, and_parts, eq-eqb, cond-true}
use Rattle.measure.specs.Measure.{Measure}
use Rattle.guards.specs.declared.step.Step.{Step}
use Rattle.rules.specs.Book.{Schema, fields_of}
use Rattle.rules.specs.Garments.{Value, Values, built, measured, Place, whole, below, field_at, step_into, part_at, place_type, OfType, OfTypes}
use Rattle.theory.specs.Knowledge.{Knowledge, candidate, only, reached}
use Rattle.theory.proofs.Parts.{field_typed}
use Rattle.theory.proofs.Candidates.{is_candidate, only-candidate, only_one}
use Rattle.std.proofs.lemmas.Option.{same_Some}
use Rattle.rules.proofs.Facts.{choice≢measured}

-- the number of steps of a place
abbrev pub steps : Place → ℕ
steps whole = 0
steps (below p s) = suc (steps p)

pub is_some_lem : {A : Type 0} (o : Option A) → is_some o ≡ true → (a : A) × (o ≡ Some a)
is_some_lem None e = absurd (false≢true e)
is_some_lem (Some a) e = (a, refl)

-- one step down, by the constructor found
step_into_lem : (s : Step) (o : Option Value) (us : Values) (u : Value) → o ≡ Some (built s.constructor us) → field_at us s.field ≡ Some u → step_into s o ≡ Some u
step_into_lem s o us u e f = ap (step_into s) e ∙ cond-true (eqb s.constructor s.constructor) (field_at us s.field) None (eq-eqb s.constructor s.constructor refl) ∙ f

module _ (m : Measure) (d : Schema) (k : Knowledge) (v : Value) where
  -- a typed value stands at the place
  pub record Stood (p : Place) : Type 0 where
    pub value : Value
    pub type : ℕ
    pub found : part_at v p ≡ Some value
    pub placed : place_type d p ≡ Some type
    pub typed : OfType m d type value

  -- at places of fewer than n steps the constructors found are candidates
  abbrev pub Candid : ℕ → Type 0
  Candid n = (p : Place) (t e : ℕ) (us : Values) → steps p < n → part_at v p ≡ Some (built e us) → place_type d p ≡ Some t → OfType m d t (built e us) → candidate m d k p e ≡ true

  -- the only candidate is the constructor found
  pub found_only : (n : ℕ) → Candid n → (p : Place) (c : ℕ) → steps p < n → (s : Stood p) → only m d k p c ≡ true
      → (us : Values) × ((part_at v p ≡ Some (built c us)) × OfTypes m d (fields_of d c) us)
  found_only n all p c l s o = go s.value s.found s.typed
    where
      go : (u : Value) → part_at v p ≡ Some u → OfType m d s.type u → (us : Values) × ((part_at v p ≡ Some (built c us)) × OfTypes m d (fields_of d c) us)
      go (built e us) h w =
          let same : e ≡ c = only_one m d k p c o e (all p s.type e us l h s.placed w) in
          (us, (h ∙ ap (λ x. Some (built x us)) same, subst (λ x. OfTypes m d (fields_of d x) us) same w.2))
      go (measured r a) h w =
          let one = is_candidate m d k p c (only-candidate m d k p c o) in
          absurd (choice≢measured r (sym one.choice ∙ ap (slice_get d.types) (same_Some one.type s.type (sym one.placed ∙ s.placed)) ∙ w.0))

  pub stands_reached : (n : ℕ) → Candid n → OfType m d 0 v → (p : Place) → steps p < n → reached m d k p ≡ true → Stood p
  stands_reached n all w whole l r = record { value = v; type = 0; found = refl; placed = refl; typed = w }
  stands_reached n all w (below p s) l r =
      let two = and_parts (reached m d k p) (only m d k p s.constructor && is_some (slice_get (fields_of d s.constructor) s.field)) r in
      let more = and_parts (only m d k p s.constructor) (is_some (slice_get (fields_of d s.constructor) s.field)) two.1 in
      let h : steps p < n = omega arith in
      let f = found_only n all p s.constructor h (stands_reached n all w p h two.0) more.0 in
      let t = is_some_lem (slice_get (fields_of d s.constructor) s.field) more.1 in
      let u = field_typed m d (fields_of d s.constructor) f.0 s.field t.0 f.1.1 t.1 in
      record {
        value = u.0;
        type = t.0;
        found = step_into_lem s (part_at v p) f.0 u.0 f.1.0 u.1.0;
        placed = t.1;
        typed = u.1.1;
      }
