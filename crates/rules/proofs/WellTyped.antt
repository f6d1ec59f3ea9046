-- A well-typed list of entries unfolds to a value of type 0.
use Rattle.std.proofs.Common.{◌≡◌, ℕ, zero, suc, Bool, true, false, cond, ◌&&◌, eqb, leb, List, [], ◌∷◌, ◌++◌, get_or, take, drop, ℤ, pos, negsuc, Some, None, Option, refl, subst, append_assoc, append-nil}
use Rattle.std.specs.List.{slice_get}
use Rattle.std.proofs.lemmas.Bool.{and_parts, false≢true}
use Rattle.measure.specs.Measure.{Measure}
use Rattle.rules.specs.declared.rows.TypeRow.{TypeRow}
use Rattle.rules.specs.declared.rows.TypeRow.TheVariants.{Choice, Measured}
use Rattle.rules.specs.declared.rows.GarmentEntry.{GarmentEntry}
use Rattle.rules.specs.Tables.{unfolded, natural}
use Rattle.guards.specs.Questions.{Rule}
use Rattle.rules.specs.Book.{Book, Schema, schema_of, fields_of, owner_of, sort_in, is_choice}
use Rattle.rules.specs.Garments.{Value, built, no_values, OfType, OfTypes, children, measured_by, entry_value, entry_values, last, or_nothing, garment_value, is_some_number, all_zero, type_number_in, children_fit, built_fits, is_atom, measured_fits, entry_fits, entries_fit}
use Rattle.rules.specs.Sheets.{clauses_of, sheet_answer}
use Rattle.rules.specs.Trees.{Same, start_of}
use Rattle.rules.specs.Law.{start_answer, Alike}
use Rattle.rules.specs.Typed.{GarmentsAreValues}
use Rattle.std.proofs.lemmas.Option.{none-some}
use Rattle.rules.proofs.Facts.{number_from_test, choice_from_test}

module _ (m : Measure) (d : Schema) where
  -- each value is of the type of the entry at the same number
  abbrev pub Fitted : List GarmentEntry → List Value → Type 0
  Fitted [] [] = Unit {0}
  Fitted [] (v ∷ vs) = ⊥
  Fitted (e ∷ es) [] = ⊥
  Fitted (e ∷ es) (v ∷ vs) = OfType m d e.ty v × Fitted es vs

  pub Fitted-at : (es : List GarmentEntry) (vs : List Value) (n t : ℕ) (w : Value) → Fitted es vs → type_number_in (slice_get es n) ≡ Some t → OfType m d t (get_or vs n w)
  Fitted-at [] [] n t w f h = absurd (none-some t h)
  Fitted-at [] (v ∷ vs) n t w f h = absurd f
  Fitted-at (e ∷ es) [] n t w f h = absurd f
  Fitted-at (e ∷ es) (v ∷ vs) zero t w f h = let q : e.ty ≡ t = cc in subst (λ k. OfType m d k v) q f.0
  Fitted-at (e ∷ es) (v ∷ vs) (suc n) t w f h = Fitted-at es vs n t w f.1 h

  Fitted-push : (es : List GarmentEntry) (vs : List Value) (e : GarmentEntry) (v : Value) → Fitted es vs → OfType m d e.ty v → Fitted (es ++ e ∷ []) (vs ++ v ∷ [])
  Fitted-push [] [] e v f h = (h, tt)
  Fitted-push [] (w ∷ vs) e v f h = absurd f
  Fitted-push (x ∷ es) [] e v f h = absurd f
  Fitted-push (x ∷ es) (w ∷ vs) e v f h = (f.0, Fitted-push es vs e v f.1 h)

  Fitted-last : (es : List GarmentEntry) (vs : List Value) (t : ℕ) → Fitted es vs → type_number_in (last es) ≡ Some t → OfType m d t (or_nothing (last vs))
  Fitted-last [] [] t f h = absurd (none-some t h)
  Fitted-last [] (v ∷ vs) t f h = absurd f
  Fitted-last (e ∷ es) [] t f h = absurd f
  Fitted-last (e ∷ []) (v ∷ []) t f h = let q : e.ty ≡ t = cc in subst (λ k. OfType m d k v) q f.0
  Fitted-last (e ∷ []) (v ∷ (w ∷ vs)) t f h = absurd f.1
  Fitted-last (e ∷ (x ∷ es)) (v ∷ []) t f h = absurd f.1
  Fitted-last (e ∷ (x ∷ es)) (v ∷ (w ∷ vs)) t f h = Fitted-last (x ∷ es) (w ∷ vs) t f.1 h

  children_typed : (before : List GarmentEntry) (vs : List Value) (ns ts : List ℕ) → Fitted before vs → children_fit before ns ts ≡ true → OfTypes m d ts (children vs ns)
  children_typed before vs [] [] f h = tt
  children_typed before vs [] (t ∷ ts) f h = absurd (false≢true h)
  children_typed before vs (n ∷ ns) [] f h = absurd (false≢true h)
  children_typed before vs (n ∷ ns) (t ∷ ts) f h =
      let p = and_parts (is_some_number (type_number_in (slice_get before n)) t) (children_fit before ns ts) h in
      (Fitted-at before vs n t (built 0 no_values) f (number_from_test (type_number_in (slice_get before n)) t p.0), children_typed before vs ns ts f p.1)

  built_typed : (before : List GarmentEntry) (vs : List Value) (e : GarmentEntry) (z : ℤ) → Fitted before vs → built_fits d before e z ≡ true → OfType m d e.ty (built (natural z) (children vs (take e.count e.children)))
  built_typed before vs e (negsuc c) f h = absurd (false≢true h)
  built_typed before vs e (pos c) f h =
      let fit : Bool = children_fit before (take e.count e.children) (fields_of d c) in
      let rest : Bool = leb e.count 4 && all_zero (drop e.count e.children) in
      let p = and_parts (is_choice (slice_get d.types e.ty)) (is_some_number (owner_of d c) e.ty && (fit && rest)) h in
      let q = and_parts (is_some_number (owner_of d c) e.ty) (fit && rest) p.1 in
      let r = and_parts fit rest q.1 in
      (choice_from_test (slice_get d.types e.ty) p.0, number_from_test (owner_of d c) e.ty q.0, children_typed before vs (take e.count e.children) (fields_of d c) f r.0)

  measured_typed : (t : ℕ) (a : ℤ) (o : Option TypeRow) → slice_get d.types t ≡ o → is_atom m (sort_in o) a ≡ true → OfType m d t (measured_by (sort_in o) a)
  measured_typed t a None is h = absurd (false≢true h)
  measured_typed t a (Some Choice) is h = absurd (false≢true h)
  measured_typed t a (Some (Measured s)) is h = (is, h)

  entry_typed : (before : List GarmentEntry) (vs : List Value) (e : GarmentEntry) → Fitted before vs → entry_fits m d before e ≡ true → OfType m d e.ty (entry_value d vs e)
  entry_typed before vs e f h = go (eqb e.mark 0) h
    where
      go : (b : Bool) → cond b (built_fits d before e e.head) (eqb e.mark 1 && measured_fits m d e) ≡ true
          → OfType m d e.ty (cond b (built (natural e.head) (children vs (take e.count e.children))) (measured_by (sort_in (slice_get d.types e.ty)) e.head))
      go true h = built_typed before vs e e.head f h
      go false h =
          let p = and_parts (eqb e.mark 1) (measured_fits m d e) h in
          let q = and_parts (is_atom m (sort_in (slice_get d.types e.ty)) e.head) (eqb e.count 0 && all_zero e.children) p.1 in
          measured_typed e.ty e.head (slice_get d.types e.ty) refl q.0

  pub entries_typed : (before : List GarmentEntry) (vs : List Value) (es : List GarmentEntry) → Fitted before vs → entries_fit m d before es ≡ true → Fitted (before ++ es) (unfolded (entry_value d) vs es)
  entries_typed before vs [] f h = rw append-nil f
  entries_typed before vs (e ∷ es) f h =
      let p = and_parts (entry_fits m d before e) (entries_fit m d (before ++ e ∷ []) es) h in
      let g = entries_typed (before ++ e ∷ []) (vs ++ entry_value d vs e ∷ []) es (Fitted-push before vs e (entry_value d vs e) f (entry_typed before vs e f p.0)) p.1 in
      rw append_assoc at g

pub garments_are_values : GarmentsAreValues
garments_are_values m d es h =
    let p = and_parts (is_some_number (type_number_in (last es)) 0) (entries_fit m d [] es) h in
    Fitted-last m d es (entry_values d es) 0 (entries_typed m d [] [] es tt p.1) (number_from_test (type_number_in (last es)) 0 p.0)

-- alike on every value of type 0, so alike
pub Alike-by_values : (m : Measure) (b : Book) → ((v : Value) (rule : Rule) → OfType m (schema_of b) 0 v → Same (sheet_answer m (clauses_of b) v rule) (start_answer m (start_of b) v rule)) → Alike m b
Alike-by_values m b same es rule h = same (garment_value (schema_of b) es) rule (garments_are_values m (schema_of b) es h)
