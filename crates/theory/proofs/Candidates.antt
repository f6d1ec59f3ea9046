-- Candidates at a place, the only one, and answers that agree.
use Rattle.std.proofs.Common.{◌≡◌, ℕ, Bool, true, false, not, ◌&&◌, ◌||◌, eqb, length, Some, None, Option, sym, refl, ap, ◌∙◌}
use Rattle.std.specs.List.{slice_get}
use Rattle.std.proofs.lemmas.Bool.{false≢true, and_parts, and_from, not-true, not_from_true, not_from_false, eqb-true, eqb-false, eq-eqb}
use Rattle.measure.specs.Measure.{Measure, gives}
use Rattle.guards.specs.Questions.{and_then}
use Rattle.rules.specs.declared.rows.TypeRow.{TypeRow}
use Rattle.rules.specs.declared.rows.TypeRow.TheVariants.{Choice, Measured}
use Rattle.rules.specs.Book.{Schema, fields_of, owner_of, is_choice, sort_in, sort_of}
use Rattle.rules.specs.Garments.{Place, place_type, is_some_number}
use Rattle.theory.specs.Inhabited.{all_of, inhabited}
use Rattle.theory.specs.Knowledge.{Knowledge, head_agrees_all, builds_type, candidate, none_below, only}
use Rattle.theory.proofs.Below.{none_passes, none_from, some_passes}
use Rattle.theory.proofs.Making.{owner_below}
use Rattle.std.proofs.lemmas.Option.{none-some, same_Some}
use Rattle.rules.proofs.Facts.{choice_from_test, number_from_test, test_from_number}

-- ── answers that agree ──

pub gives_same : (b x : Bool) → x ≡ b → gives b x ≡ true
gives_same true x e = e
gives_same false x e = ap not e

pub same_given : (b x : Bool) → gives b x ≡ true → x ≡ b
same_given true x e = e
same_given false x e = not-true x e

-- the answer to a look at the very place
pub agrees_here : (x g : Bool) → x ≡ true → (not x || g) ≡ true → g ≡ true
agrees_here true g e h = h
agrees_here false g e h = absurd (false≢true e)

-- ── the sort of a place ──

pub sort_at : (d : Schema) (p : Place) (t s : ℕ) → place_type d p ≡ Some t → slice_get d.types t ≡ Some (Measured s) → and_then (place_type d p) (sort_of d) ≡ Some s
sort_at d p t s e row = ap (λ o. and_then o (sort_of d)) e ∙ ap sort_in row

pub row_of_sort : (o : Option TypeRow) (s : ℕ) → sort_in o ≡ Some s → o ≡ Some (Measured s)
row_of_sort None s e = absurd (none-some s e)
row_of_sort (Some Choice) s e = absurd (none-some s e)
row_of_sort (Some (Measured r)) s e = ap (λ x. Some (Measured x)) (same_Some r s e)

module _ (m : Measure) (d : Schema) (k : Knowledge) (p : Place) where
  pub record Candidate (c : ℕ) : Type 0 where
    pub type : ℕ
    pub placed : place_type d p ≡ Some type
    pub choice : slice_get d.types type ≡ Some Choice
    pub owner : owner_of d c ≡ Some type
    pub fields : all_of (inhabited m d) (fields_of d c) ≡ true
    pub agrees : head_agrees_all p c k ≡ true

  pub is_candidate : (c : ℕ) → candidate m d k p c ≡ true → Candidate c
  is_candidate c e =
      let two = and_parts (builds_type d c (place_type d p)) (all_of (inhabited m d) (fields_of d c) && head_agrees_all p c k) e in
      let more = and_parts (all_of (inhabited m d) (fields_of d c)) (head_agrees_all p c k) two.1 in
      go (place_type d p) refl two.0 more.0 more.1
    where
      go : (o : Option ℕ) → place_type d p ≡ o → builds_type d c o ≡ true → all_of (inhabited m d) (fields_of d c) ≡ true → head_agrees_all p c k ≡ true → Candidate c
      go None e b f a = absurd (false≢true b)
      go (Some t) e b f a =
          let two = and_parts (is_choice (slice_get d.types t)) (is_some_number (owner_of d c) t) b in
          record { type = t; placed = e; choice = choice_from_test (slice_get d.types t) two.0; owner = number_from_test (owner_of d c) t two.1; fields = f; agrees = a }

  pub candidate_from : (c : ℕ) → Candidate c → candidate m d k p c ≡ true
  candidate_from c r =
      and_from (builds_type d c (place_type d p)) (all_of (inhabited m d) (fields_of d c) && head_agrees_all p c k)
      (ap (builds_type d c) r.placed
      ∙ and_from (is_choice (slice_get d.types r.type)) (is_some_number (owner_of d c) r.type) (ap is_choice r.choice) (test_from_number (owner_of d c) r.type r.owner))
      (and_from (all_of (inhabited m d) (fields_of d c)) (head_agrees_all p c k) r.fields r.agrees)

  -- ── the only candidate ──

  pub only-candidate : (c : ℕ) → only m d k p c ≡ true → candidate m d k p c ≡ true
  only-candidate c e = (and_parts (candidate m d k p c) (none_below (length d.constructors) (λ e. candidate m d k p e && not (eqb e c))) e).0

  pub only_one : (c : ℕ) → only m d k p c ≡ true → (e : ℕ) → candidate m d k p e ≡ true → e ≡ c
  only_one c o e h = go (eqb e c) refl
    where
      none_else : none_below (length d.constructors) (λ x. candidate m d k p x && not (eqb x c)) ≡ true
      none_else = (and_parts (candidate m d k p c) (none_below (length d.constructors) (λ x. candidate m d k p x && not (eqb x c))) o).1

      go : (b : Bool) → eqb e c ≡ b → e ≡ c
      go true f = eqb-true e c f
      go false f =
          let r = is_candidate e h in
          absurd (none_passes (length d.constructors) (λ x. candidate m d k p x && not (eqb x c)) none_else e (owner_below d e r.type r.owner)
          (and_from (candidate m d k p e) (not (eqb e c)) h (not_from_false (eqb e c) f)))

  pub only_from : (c : ℕ) → candidate m d k p c ≡ true → ((e : ℕ) → candidate m d k p e ≡ true → e ≡ c) → only m d k p c ≡ true
  only_from c h one =
      and_from (candidate m d k p c) (none_below (length d.constructors) (λ e. candidate m d k p e && not (eqb e c))) h
      (none_from (length d.constructors) (λ e. candidate m d k p e && not (eqb e c)) (λ e. go e (candidate m d k p e) refl))
    where
      go : (e : ℕ) (b : Bool) → candidate m d k p e ≡ b → (b && not (eqb e c)) ≡ false
      go e true f = not_from_true (eqb e c) (eq-eqb e c (one e f))
      go e false f = refl

  -- a candidate that is not the only one has another beside it
  pub another : (c : ℕ) → candidate m d k p c ≡ true → only m d k p c ≡ false → (e : ℕ) × ((candidate m d k p e ≡ true) × (e ≡ c → ⊥))
  another c h o =
      let r = some_passes (length d.constructors) (λ e. candidate m d k p e && not (eqb e c)) (sym (ap (λ b. b && none_below (length d.constructors) (λ e. candidate m d k p e && not (eqb e c))) h) ∙ o) in
      let two = and_parts (candidate m d k p r.0) (not (eqb r.0 c)) r.1 in
      (r.0, (two.0, eqb-false r.0 c (not-true (eqb r.0 c) two.1)))
