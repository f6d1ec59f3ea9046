-- What is not refused is not refused either where there are more types, constructors and places.
use Rattle.std.proofs.Common.{◌≡◌, ℕ, Bool, false, not, ◌&&◌, ◌||◌, ltb, leb, List, [], ◌∷◌, ◌++◌, length, drop, ℤ, pos, negsuc, Some, None, Option, sym, refl, ap, ◌∙◌, ap₂}
use Rattle.std.specs.List.{AllByRecursion, slice_get}
use Rattle.std.proofs.lemmas.Bool.{true≢false, or_parts, or_from}
use Rattle.measure.specs.Measure.{Measure}
use Rattle.guards.specs.Questions.{and_then}
use Rattle.pattern_file.specs.declared.names.CallName.TheVariants as call
use Rattle.rules.specs.declared.rows.TypeRow.{TypeRow}
use Rattle.rules.specs.declared.rows.ConstructorRow.{ConstructorRow}
use Rattle.rules.specs.declared.rows.PlaceRow.{PlaceRow}
use Rattle.rules.specs.declared.rows.PairRow.{PairRow}
use Rattle.rules.specs.declared.rows.NodeRow.{NodeRow}
use Rattle.rules.specs.Tables.{named}
use Rattle.rules.specs.Book.{Book, Schema, fields_in, owner_in, is_choice, is_measured, sort_in, most_places}
use Rattle.rules.specs.Garments.{Place, whole, below, place_type}
use Rattle.rules.specs.Rows.{part, pair_rows, switch_row, test_row, ask_row}
use Rattle.rules.specs.Trees.{places_from, nodes_of, depth}
use Rattle.rules.specs.Grounds.{unknown, any_unknown, is_minus_one, is_code, differ, row_of, no_test_of, evens, odds, any_owner_differs, new_tree, step_count, building_grounds}
use Rattle.rules.proofs.Lists.{AllByRecursion-slice_get, Clear, Begins, Begins-itself, slice_get-Begins, known, named-Begins, named_same, unknown-Begins, any_unknown-Begins}
use Rattle.rules.proofs.Depths.{same_depth, same_depths}
use Rattle.std.proofs.lemmas.Option.{none-some}

-- the workbook that holds these rows: no sheet, and no pass is out
abbrev pub tables : List TypeRow → List ConstructorRow → List PlaceRow → List NodeRow → List PairRow → Book
tables ts cs ps ns qs = record { types = ts; constructors = cs; patterns = []; clauses = []; places = ps; nodes = ns; pairs = qs; out = false }

abbrev schema : List TypeRow → List ConstructorRow → Schema
schema ts cs = record { types = ts; constructors = cs }

-- a place has a type that the workbook knows
abbrev pub TypeKnown : List TypeRow → List ConstructorRow → Place → Type 0
TypeKnown ts cs p = (t : ℕ) × (row : TypeRow) × (place_type (schema ts cs) p ≡ Some t) × (slice_get ts t ≡ Some row)

pub all_named : {A : Type 0} (P : A → Type 0) (xs : List A) (z : ℤ) (x : A) → AllByRecursion P xs → named xs z ≡ Some x → P x
all_named P xs (pos n) x a h = AllByRecursion-slice_get P xs n x a h
all_named P xs (negsuc n) x a h = absurd (none-some x h)

field_begins : (o u : Option ConstructorRow) (i t : ℕ) → ((r : ConstructorRow) → o ≡ Some r → u ≡ Some r) → slice_get (fields_in o) i ≡ Some t → slice_get (fields_in u) i ≡ Some t
field_begins None u i t f h = absurd (none-some t h)
field_begins (Some r) u i t f h = ap (λ o. slice_get (fields_in o) i) (f r refl) ∙ h

-- where there is a place by a number, there is a type, and more types do not change the places
pub same_places : (ts us : List TypeRow) (rows : List PlaceRow) (z : ℤ) → Begins ts us → unknown (places_from ts rows) z ≡ false → places_from us rows ≡ places_from ts rows
same_places [] us rows (pos n) b h = absurd (true≢false h)
same_places [] us rows (negsuc n) b h = absurd (true≢false h)
same_places (t ∷ ts) [] rows z b h = absurd b
same_places (t ∷ ts) (u ∷ us) rows z b h = refl

pub places_begin : (ts us : List TypeRow) (rows : List PlaceRow) → Begins ts us → Begins (places_from ts rows) (places_from us rows)
places_begin [] us rows b = tt
places_begin (t ∷ ts) [] rows b = absurd b
places_begin (t ∷ ts) (u ∷ us) rows b = Begins-itself (places_from (t ∷ ts) rows)

pub constructor_wider : (m : Measure) (ts us : List TypeRow) (cs : List ConstructorRow) (put : List ℤ) (own : ℤ) → Begins ts us
    → Clear (building_grounds m (tables ts cs [] [] []) call.Constructor put own) → Clear (building_grounds m (tables us cs [] [] []) call.Constructor put own)
constructor_wider m ts us cs put own b c =
    let k = or_parts (unknown ts own) (any_unknown ts put) c.1.0 in (
      c.0,
      (
        or_from (unknown us own) (any_unknown us put) (unknown-Begins ts us own b k.0) (any_unknown-Begins ts us put b k.1),
        (ap is_measured (named_same ts us own b k.0) ∙ c.1.1.0, c.1.1.1),
      ),
    )

module _ (m : Measure) (ts us : List TypeRow) (cs ds : List ConstructorRow) (types : Begins ts us) (constructors : Begins cs ds) where
  pub type_begins : (p : Place) (t : ℕ) → place_type (schema ts cs) p ≡ Some t → place_type (schema us ds) p ≡ Some t
  type_begins whole t h = h
  type_begins (below p s) t h = field_begins (slice_get cs s.constructor) (slice_get ds s.constructor) s.field t (λ r e. slice_get-Begins cs ds s.constructor r constructors e) h

  module _ (ps qs : List Place) (places : Begins ps qs) (typed : AllByRecursion (TypeKnown ts cs) ps) where
    both_types : (z : ℤ) → unknown ps z ≡ false → (t : ℕ) × (row : TypeRow)
        × (and_then (named ps z) (place_type (schema ts cs)) ≡ Some t) × (and_then (named qs z) (place_type (schema us ds)) ≡ Some t) × (slice_get ts t ≡ Some row) × (slice_get us t ≡ Some row)
    both_types z h =
        let k = known ps z h in
        let j = all_named (TypeKnown ts cs) ps z k.0 typed k.1 in (
          j.0,
          j.1,
          ap (λ o. and_then o (place_type (schema ts cs))) k.1 ∙ j.2,
          ap (λ o. and_then o (place_type (schema us ds))) (named-Begins ps qs z k.0 places k.1) ∙ type_begins k.0 j.0 j.2,
          j.3,
          slice_get-Begins ts us j.0 j.1 types j.3,
        )

    same_type : (z : ℤ) → unknown ps z ≡ false → and_then (named qs z) (place_type (schema us ds)) ≡ and_then (named ps z) (place_type (schema ts cs))
    same_type z h = let k = both_types z h in k.3 ∙ sym k.2

    same_row : (z : ℤ) → unknown ps z ≡ false → row_of (schema us ds) (and_then (named qs z) (place_type (schema us ds))) ≡ row_of (schema ts cs) (and_then (named ps z) (place_type (schema ts cs)))
    same_row z h = let k = both_types z h in ap (row_of (schema us ds)) k.3 ∙ k.5 ∙ sym (ap (row_of (schema ts cs)) k.2 ∙ k.4)

  same_owner : (z : ℤ) → unknown cs z ≡ false → owner_in (named ds z) ≡ owner_in (named cs z)
  same_owner z h = ap owner_in (named_same cs ds z constructors h)

  same_owners : (ps qs : List PlaceRow) (ns : List NodeRow) (prs : List PairRow) (t : Option ℕ) (zs : List ℤ) → any_unknown cs zs ≡ false
      → any_owner_differs (tables us ds qs ns prs) t zs ≡ any_owner_differs (tables ts cs ps ns prs) t zs
  same_owners ps qs ns prs t [] h = refl
  same_owners ps qs ns prs t (z ∷ zs) h =
      let k = or_parts (unknown cs z) (any_unknown cs zs) h in
      ap₂ (λ o d. differ o t || d) (same_owner z k.0) (same_owners ps qs ns prs t zs k.1)

  pub place_wider : (rows : List PlaceRow) (put : List ℤ) (own : ℤ) → AllByRecursion (TypeKnown ts cs) (places_from ts rows)
      → Clear (building_grounds m (tables ts cs rows [] []) call.Place put own) → Clear (building_grounds m (tables us ds rows [] []) call.Place put own)
  place_wider rows put own typed c =
      let k = or_parts (unknown (places_from ts rows) (part put 0)) (unknown cs (part put 1) || unknown (fields_in (named cs (part put 1))) own) c.1.0 in
      let j = or_parts (unknown cs (part put 1)) (unknown (fields_in (named cs (part put 1))) own) k.1 in
      let e = same_places ts us rows (part put 0) types k.0 in (
        c.0,
        (
          or_from (unknown (places_from us rows) (part put 0)) (unknown ds (part put 1) || unknown (fields_in (named ds (part put 1))) own)
              (ap (λ ps. unknown ps (part put 0)) e ∙ k.0)
              (or_from (unknown ds (part put 1)) (unknown (fields_in (named ds (part put 1))) own) (unknown-Begins cs ds (part put 1) constructors j.0)
              (ap (λ o. unknown (fields_in o) own) (named_same cs ds (part put 1) constructors j.0) ∙ j.1)),
          (
            ap₂ differ (same_owner (part put 1) j.0)
                (same_type (places_from ts rows) (places_from us rows) (places_begin ts us rows types) typed (part put 0) k.0)
                ∙ c.1.1.0,
            (
              ap (λ ps. leb 16 (step_count (named ps (part put 0)))) e ∙ c.1.1.1.0,
              (ap (λ ps. leb most_places (length ps)) e ∙ c.1.1.1.1.0, tt),
            ),
          ),
        ),
      )

  -- ── nodes ──

  module _ (ps qs : List PlaceRow) (ns : List NodeRow) (prs : List PairRow) (places : Begins (places_from ts ps) (places_from us qs)) (typed : AllByRecursion (TypeKnown ts cs) (places_from ts ps)) where
    -- before and after there is more
    abbrev old : Book
    old = tables ts cs ps ns prs

    abbrev new : Book
    new = tables us ds qs ns prs

    same_tree : (pairs : List PairRow) (r : NodeRow) → depth (new_tree new pairs r) ≡ depth (new_tree old pairs r)
    same_tree pairs r =
        same_depth (places_from us qs) (places_from ts ps) (prs ++ pairs) (nodes_of new) (nodes_of old) r (same_depths (places_from us qs) (places_from ts ps) prs [] [] ns refl)

    pub leaf_wider : (put : List ℤ) (own : ℤ) → Clear (building_grounds m old call.Leaf put own) → Clear (building_grounds m new call.Leaf put own)
    leaf_wider put own c =
        let k = or_parts (not (is_code own)) (any_unknown (places_from ts ps) put) c.1.0 in
        (c.0, (or_from (not (is_code own)) (any_unknown (places_from us qs) put) k.0 (any_unknown-Begins (places_from ts ps) (places_from us qs) put places k.1), c.1.1))

    pub switch_wider : (put : List ℤ) (own : ℤ) → Clear (building_grounds m old call.Switch put own) → Clear (building_grounds m new call.Switch put own)
    switch_wider put own c =
        let rest : List ℤ = drop 1 put in
        let nodes : Bool = (not (is_minus_one (part put 0)) && unknown ns (part put 0)) in
        let k = or_parts (unknown (places_from ts ps) own) (nodes || (any_unknown cs (evens rest) || any_unknown ns (odds rest))) c.1.0 in
        let j = or_parts nodes (any_unknown cs (evens rest) || any_unknown ns (odds rest)) k.1 in
        let i = or_parts (any_unknown cs (evens rest)) (any_unknown ns (odds rest)) j.1 in
        let w = or_parts (is_measured (row_of (schema ts cs) (and_then (named (places_from ts ps) own) (place_type (schema ts cs)))))
        (any_owner_differs old (and_then (named (places_from ts ps) own) (place_type (schema ts cs))) (evens rest)) c.1.1.0 in (
          c.0,
          (
            or_from (unknown (places_from us qs) own) (nodes || (any_unknown ds (evens rest) || any_unknown ns (odds rest)))
                (unknown-Begins (places_from ts ps) (places_from us qs) own places k.0)
                (or_from nodes (any_unknown ds (evens rest) || any_unknown ns (odds rest)) j.0
                (or_from (any_unknown ds (evens rest)) (any_unknown ns (odds rest)) (any_unknown-Begins cs ds (evens rest) constructors i.0) i.1)),
            (
              or_from (is_measured (row_of (schema us ds) (and_then (named (places_from us qs) own) (place_type (schema us ds)))))
                  (any_owner_differs new (and_then (named (places_from us qs) own) (place_type (schema us ds))) (evens rest))
                  (ap is_measured (same_row (places_from ts ps) (places_from us qs) places typed own k.0) ∙ w.0)
                  (ap (λ t. any_owner_differs new t (evens rest)) (same_type (places_from ts ps) (places_from us qs) places typed own k.0)
                  ∙ same_owners ps qs ns prs (and_then (named (places_from ts ps) own) (place_type (schema ts cs))) (evens rest) i.0 ∙ w.1),
              (
                c.1.1.1.0,
                (ap (λ d. ltb 32 d) (same_tree (pair_rows rest) (switch_row (length prs) put own)) ∙ c.1.1.1.1.0, c.1.1.1.1.1),
              ),
            ),
          ),
        )

    pub test_wider : (put : List ℤ) (own : ℤ) → Clear (building_grounds m old call.Test put own) → Clear (building_grounds m new call.Test put own)
    test_wider put own c =
        let nodes : Bool = (unknown ns (part put 1) || unknown ns (part put 2)) in
        let k = or_parts (unknown (places_from ts ps) own) nodes c.1.0 in
        let e = same_row (places_from ts ps) (places_from us qs) places typed own k.0 in (
          c.0,
          (
            or_from (unknown (places_from us qs) own) nodes (unknown-Begins (places_from ts ps) (places_from us qs) own places k.0) k.1,
            (
              ap is_choice e ∙ c.1.1.0,
              (
                ap (λ r. no_test_of m (sort_in r) (part put 0)) e ∙ c.1.1.1.0,
                (ap (λ d. ltb 32 d) (same_tree [] (test_row put own)) ∙ c.1.1.1.1.0, c.1.1.1.1.1),
              ),
            ),
          ),
        )

    pub ask_wider : (put : List ℤ) (own : ℤ) → Clear (building_grounds m old call.Ask put own) → Clear (building_grounds m new call.Ask put own)
    ask_wider put own c =
        let nodes : Bool = (unknown ns (part put 0) || unknown ns (part put 1)) in
        let k = or_parts (not (is_code own)) (nodes || any_unknown (places_from ts ps) (drop 2 put)) c.1.0 in
        let j = or_parts nodes (any_unknown (places_from ts ps) (drop 2 put)) k.1 in (
          c.0,
          (
            or_from (not (is_code own)) (nodes || any_unknown (places_from us qs) (drop 2 put)) k.0
                (or_from nodes (any_unknown (places_from us qs) (drop 2 put)) j.0 (any_unknown-Begins (places_from ts ps) (places_from us qs) (drop 2 put) places j.1)),
            (ap (λ d. ltb 32 d) (same_tree [] (ask_row put own)) ∙ c.1.1.0, c.1.1.1),
          ),
        )
