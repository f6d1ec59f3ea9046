-- One more entry at the end of a list of entries: what it means, whether it fits, and what stays.
use Rattle.std.proofs.Common.{◌≡◌, ℕ, zero, suc, ◌<◌, ◌≤◌, true, List, [], ◌∷◌, ◌++◌, length, get_or, take, drop, Some, sym, refl, ap, ◌∙◌, subst, arith}
use Rattle.std.proofs.lemmas.List.{append_assoc, append-nil, length-append, get_or_append_left, get_or_at}
use Rattle.std.proofs.lemmas.Bool.{and_parts, and_from}
use Rattle.std.specs.List.{slice_get}
use Rattle.measure.specs.Measure.{Measure}
use Rattle.rules.specs.declared.rows.GarmentEntry.{GarmentEntry}
use Rattle.rules.specs.Book.{Schema}
use Rattle.rules.specs.Garments.{Value, built, no_values, entry_value, entry_values, last, or_nothing, garment_value, all_zero, type_number_in, entry_fits, entries_fit}
use Rattle.shown.specs.ShownGarment.{four_of}
use Rattle.rules.proofs.Lists.{unfolded-push, length-unfolded}

-- ── rows one after another ──

pub last-push : {A : Type 0} (xs : List A) (x : A) → last (xs ++ x ∷ []) ≡ Some x
last-push [] x = refl
last-push (y ∷ []) x = refl
last-push (y ∷ (z ∷ xs)) x = last-push (z ∷ xs) x

pub slice_get-append_left : {A : Type 0} (xs ys : List A) (n : ℕ) → n < length xs → slice_get (xs ++ ys) n ≡ slice_get xs n
slice_get-append_left [] ys n h = absurd (omega arith)
slice_get-append_left (x ∷ xs) ys zero h = refl
slice_get-append_left (x ∷ xs) ys (suc n) h = slice_get-append_left xs ys n (omega arith)

pub slice_get-push : {A : Type 0} (xs : List A) (x : A) → slice_get (xs ++ x ∷ []) (length xs) ≡ Some x
slice_get-push [] x = refl
slice_get-push (y ∷ xs) x = slice_get-push xs x

-- ── four child numbers ──

pub four_front : (ns : List ℕ) → length ns ≤ 4 → take (length ns) (four_of ns) ≡ ns
four_front [] h = refl
four_front (a ∷ []) h = refl
four_front (a ∷ (b ∷ [])) h = refl
four_front (a ∷ (b ∷ (c ∷ []))) h = refl
four_front (a ∷ (b ∷ (c ∷ (e ∷ [])))) h = refl
four_front (a ∷ (b ∷ (c ∷ (e ∷ (f ∷ ns))))) h = absurd (omega arith)

pub four_rest : (ns : List ℕ) → length ns ≤ 4 → all_zero (drop (length ns) (four_of ns)) ≡ true
four_rest [] h = refl
four_rest (a ∷ []) h = refl
four_rest (a ∷ (b ∷ [])) h = refl
four_rest (a ∷ (b ∷ (c ∷ []))) h = refl
four_rest (a ∷ (b ∷ (c ∷ (e ∷ [])))) h = refl
four_rest (a ∷ (b ∷ (c ∷ (e ∷ (f ∷ ns))))) h = absurd (omega arith)

-- ── an entry of a list ──

-- the entry n stands in the list, and is of the type t
abbrev pub Typed : List GarmentEntry → ℕ → ℕ → Type 0
Typed es n t = (n < length es) × (type_number_in (slice_get es n) ≡ Some t)

pub typed_stays : (es : List GarmentEntry) (e : GarmentEntry) (n t : ℕ) → Typed es n t → Typed (es ++ e ∷ []) n t
typed_stays es e n t h = (omega (arith, h.0, length-append es (e ∷ [])), ap type_number_in (slice_get-append_left es (e ∷ []) n h.0) ∙ h.1)

pub Typed-new : (es : List GarmentEntry) (e : GarmentEntry) → Typed (es ++ e ∷ []) (length es) e.ty
Typed-new es e = (omega (arith, length-append es (e ∷ [])), ap type_number_in (slice_get-push es e))

-- the value of an entry
abbrev pub value_at : Schema → List GarmentEntry → ℕ → Value
value_at d es n = get_or (entry_values d es) n (built 0 no_values)

pub value_stays : (d : Schema) (es : List GarmentEntry) (e : GarmentEntry) (n : ℕ) → n < length es → value_at d (es ++ e ∷ []) n ≡ value_at d es n
value_stays d es e n h =
    ap (λ (l : List Value). get_or l n (built 0 no_values)) (unfolded-push (entry_value d) [] es e)
    ∙ get_or_append_left (entry_values d es) (entry_value d (entry_values d es) e ∷ []) (built 0 no_values) n (omega (arith, length-unfolded (entry_value d) [] es))

pub value_new : (d : Schema) (es : List GarmentEntry) (e : GarmentEntry) → value_at d (es ++ e ∷ []) (length es) ≡ entry_value d (entry_values d es) e
value_new d es e =
    ap (λ (l : List Value). get_or l (length es) (built 0 no_values)) (unfolded-push (entry_value d) [] es e)
    ∙ get_or_at (entry_values d es) (entry_value d (entry_values d es) e) [] (built 0 no_values) (length es) (omega (arith, length-unfolded (entry_value d) [] es))

pub garment_new : (d : Schema) (es : List GarmentEntry) (e : GarmentEntry) → garment_value d (es ++ e ∷ []) ≡ value_at d (es ++ e ∷ []) (length es)
garment_new d es e =
    ap (λ (l : List Value). or_nothing (last l)) (unfolded-push (entry_value d) [] es e)
    ∙ ap or_nothing (last-push (entry_values d es) (entry_value d (entry_values d es) e))
    ∙ sym (value_new d es e)

pub fit_push : (m : Measure) (d : Schema) (before es : List GarmentEntry) (e : GarmentEntry) → entries_fit m d before es ≡ true → entry_fits m d (before ++ es) e ≡ true → entries_fit m d before (es ++ e ∷ []) ≡ true
fit_push m d before [] e h k =
    and_from (entry_fits m d before e) true (subst (λ (l : List GarmentEntry). entry_fits m d l e ≡ true) (append-nil before) k) refl
fit_push m d before (x ∷ es) e h k =
    let two = and_parts (entry_fits m d before x) (entries_fit m d (before ++ x ∷ []) es) h in
    and_from (entry_fits m d before x) (entries_fit m d (before ++ x ∷ []) (es ++ e ∷ [])) two.0
    (fit_push m d (before ++ x ∷ []) es e two.1 (subst (λ (l : List GarmentEntry). entry_fits m d l e ≡ true) (sym (append_assoc before (x ∷ []) es)) k))
