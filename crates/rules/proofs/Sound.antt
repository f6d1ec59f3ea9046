-- Every workbook that calls make can be made again, table by table, from the rows that it holds.
use Rattle.std.proofs.Common.{◌≡◌, ℕ, ◌+◌, ◌≤◌, false, ◌||◌, List, [], ◌∷◌, ◌++◌, map, length, drop, ℤ, pos, Some, None, sym, refl, ap, ◌∙◌, subst}
use Rattle.std.specs.List.{AllByRecursion, slice_get}
use Rattle.std.proofs.lemmas.Bool.{or_parts}
use Rattle.measure.specs.Measure.{Measure}
use Rattle.pattern_file.specs.declared.names.CallName.{CallName}
use Rattle.pattern_file.specs.declared.names.CallName.TheVariants as call
use Rattle.rules.specs.declared.rows.TypeRow.{TypeRow}
use Rattle.rules.specs.declared.rows.ConstructorRow.{ConstructorRow}
use Rattle.rules.specs.declared.rows.PlaceRow.{PlaceRow}
use Rattle.rules.specs.declared.rows.PairRow.{PairRow}
use Rattle.rules.specs.declared.rows.NodeRow.{NodeRow}
use Rattle.rules.specs.declared.rows.NodeRow.TheVariants.{Leaf, Fail, Never, Switch, Test, Ask}
use Rattle.rules.specs.Book.{Book, empty_book, fields_in}
use Rattle.rules.specs.Garments.{whole}
use Rattle.rules.specs.Rows.{constructor_row, leaf_row, pair_rows, switch_row, test_row, ask_row}
use Rattle.rules.specs.Trees.{place_from, places_from}
use Rattle.rules.specs.Grounds.{unknown, any_unknown, building_grounds}
use Rattle.rules.specs.Calls.{Order, make, refusal_of}
use Rattle.rules.specs.Files.{order, type_order, constructor_order, place_order, node_order}
use Rattle.rules.proofs.Chains.{Chain}
use Rattle.rules.proofs.Lists.{Clear, Clear-from_none, none_from_Clear, Begins, AllByRecursion-slice_get, known, unfolded-push, AllByRecursion-push}
use Rattle.rules.proofs.Wider.{tables, TypeKnown, constructor_wider, place_wider, leaf_wider, switch_wider, test_wider, ask_wider}

-- the pairs of a switch stand in the table of pairs
abbrev pub Held : List PairRow → NodeRow → Type 0
Held qs (Leaf a ps) = Unit {0}
Held qs Fail = Unit {0}
Held qs Never = Unit {0}
Held qs (Switch p o first count) = first + count ≤ length qs
Held qs (Test p t y n) = Unit {0}
Held qs (Ask g ps y n) = Unit {0}

-- the rows of each table are made by their orders, one after the other, where the tables before it are whole
pub record Sound (m : Measure) (ts : List TypeRow) (cs : List ConstructorRow) (ps : List PlaceRow) (ns : List NodeRow) (qs : List PairRow) : Type 0 where
  pub types : Chain m empty_book (map type_order ts) (tables ts [] [] [] [])
  pub constructors : Chain m (tables ts [] [] [] []) (map constructor_order cs) (tables ts cs [] [] [])
  pub places : Chain m (tables ts cs [] [] []) (map place_order ps) (tables ts cs ps [] [])
  pub nodes : Chain m (tables ts cs ps [] []) (map (node_order qs) ns) (tables ts cs ps ns qs)
  pub pairs : AllByRecursion (Held qs) ns

-- ── the types of fields and places ──

-- a type number that the workbook knows
abbrev pub Typed : List TypeRow → ℕ → Type 0
Typed ts n = (row : TypeRow) × (slice_get ts n ≡ Some row)

abbrev pub FieldsKnown : List TypeRow → ConstructorRow → Type 0
FieldsKnown ts r = AllByRecursion (Typed ts) r.fields

all_typed : (ts : List TypeRow) (ns : List ℕ) → any_unknown ts (map pos ns) ≡ false → AllByRecursion (Typed ts) ns
all_typed ts [] h = tt
all_typed ts (n ∷ ns) h = let k = or_parts (unknown ts (pos n)) (any_unknown ts (map pos ns)) h in (known ts (pos n) k.0, all_typed ts ns k.1)

pub fields_known : (m : Measure) (ts : List TypeRow) (cs rows : List ConstructorRow) (end : Book) → Chain m (tables ts cs [] [] []) (map constructor_order rows) end → AllByRecursion (FieldsKnown ts) rows
fields_known m ts cs [] end c = tt
fields_known m ts cs (r ∷ rows) end c =
    let k = Clear-from_none (building_grounds m (tables ts cs [] [] []) call.Constructor (map pos r.fields) (pos r.owner)) c.0 in (
      all_typed ts r.fields (or_parts (unknown ts (pos r.owner)) (any_unknown ts (map pos r.fields)) k.1.0).1,
      fields_known m ts (cs ++ constructor_row (map pos r.fields) (pos r.owner) ∷ []) rows end c.1,
    )

-- the field of a known constructor has a known type
field_typed : (ts : List TypeRow) (cs : List ConstructorRow) (c i : ℕ) → AllByRecursion (FieldsKnown ts) cs → unknown cs (pos c) ≡ false → unknown (fields_in (slice_get cs c)) (pos i) ≡ false
    → (t : ℕ) × (row : TypeRow) × (slice_get (fields_in (slice_get cs c)) i ≡ Some t) × (slice_get ts t ≡ Some row)
field_typed ts cs c i fields h k =
    let r = known cs (pos c) h in
    let f = known (fields_in (slice_get cs c)) (pos i) k in
    let e : slice_get r.0.fields i ≡ Some f.0 = ap (λ o. slice_get (fields_in o) i) (sym r.1) ∙ f.1 in
    let t = AllByRecursion-slice_get (Typed ts) r.0.fields i f.0 (AllByRecursion-slice_get (FieldsKnown ts) cs c r.0 fields r.1) e in
    (f.0, t.0, f.1, t.1)

place_typed : (m : Measure) (ts : List TypeRow) (cs : List ConstructorRow) (ps : List PlaceRow) (r : PlaceRow) → AllByRecursion (FieldsKnown ts) cs
    → refusal_of m (tables ts cs ps [] []) (make (place_order r)) ≡ None → TypeKnown ts cs (place_from (places_from ts ps) r)
place_typed m ts cs ps r fields h =
    let c = Clear-from_none (building_grounds m (tables ts cs ps [] []) call.Place (pos r.parent ∷ pos r.step.constructor ∷ []) (pos r.step.field)) h in
    let k = or_parts (unknown (places_from ts ps) (pos r.parent)) (unknown cs (pos r.step.constructor) || unknown (fields_in (slice_get cs r.step.constructor)) (pos r.step.field)) c.1.0 in
    let j = or_parts (unknown cs (pos r.step.constructor)) (unknown (fields_in (slice_get cs r.step.constructor)) (pos r.step.field)) k.1 in
    field_typed ts cs r.step.constructor r.step.field fields j.0 j.1

-- one more place row is one more place, if there is any
typed_push : (ts : List TypeRow) (cs : List ConstructorRow) (ps : List PlaceRow) (r : PlaceRow) → AllByRecursion (TypeKnown ts cs) (places_from ts ps) → TypeKnown ts cs (place_from (places_from ts ps) r)
    → AllByRecursion (TypeKnown ts cs) (places_from ts (ps ++ r ∷ []))
typed_push [] cs ps r a k = tt
typed_push (t ∷ ts) cs ps r a k =
    subst (AllByRecursion (TypeKnown (t ∷ ts) cs)) (sym (unfolded-push place_from (whole ∷ []) ps r)) (AllByRecursion-push (TypeKnown (t ∷ ts) cs) (places_from (t ∷ ts) ps) (place_from (places_from (t ∷ ts) ps) r) a k)

pub whole_typed : (ts : List TypeRow) (cs : List ConstructorRow) → AllByRecursion (TypeKnown ts cs) (places_from ts [])
whole_typed [] cs = tt
whole_typed (t ∷ ts) cs = ((0, t, refl, refl), tt)

pub places_typed : (m : Measure) (ts : List TypeRow) (cs : List ConstructorRow) (ps rows end : List PlaceRow) → AllByRecursion (FieldsKnown ts) cs → AllByRecursion (TypeKnown ts cs) (places_from ts ps)
    → Chain m (tables ts cs ps [] []) (map place_order rows) (tables ts cs end [] []) → AllByRecursion (TypeKnown ts cs) (places_from ts end)
places_typed m ts cs ps [] end fields a c = subst (λ (b : Book). AllByRecursion (TypeKnown ts cs) (places_from ts b.places)) c a
places_typed m ts cs ps (r ∷ rows) end fields a c =
    places_typed m ts cs (ps ++ r ∷ []) rows end fields (typed_push ts cs ps r a (place_typed m ts cs ps r fields c.0)) c.1

-- ── chains where there is more ──

pub constructors_wider : (m : Measure) (ts us : List TypeRow) → Begins ts us → (cs rows end : List ConstructorRow)
    → Chain m (tables ts cs [] [] []) (map constructor_order rows) (tables ts end [] [] []) → Chain m (tables us cs [] [] []) (map constructor_order rows) (tables us end [] [] [])
constructors_wider m ts us b cs [] end c = ap (λ (x : Book). tables us x.constructors [] [] []) c
constructors_wider m ts us b cs (r ∷ rows) end c =
    let x : Order = constructor_order r in (
      none_from_Clear (building_grounds m (tables us cs [] [] []) call.Constructor x.put x.own)
          (constructor_wider m ts us cs x.put x.own b (Clear-from_none (building_grounds m (tables ts cs [] [] []) call.Constructor x.put x.own) c.0)),
      constructors_wider m ts us b (cs ++ constructor_row x.put x.own ∷ []) rows end c.1,
    )

module _ (m : Measure) (ts us : List TypeRow) (cs ds : List ConstructorRow) (types : Begins ts us) (constructors : Begins cs ds) where
  pub places_wider : (ps rows end : List PlaceRow) → AllByRecursion (FieldsKnown ts) cs → AllByRecursion (TypeKnown ts cs) (places_from ts ps)
      → Chain m (tables ts cs ps [] []) (map place_order rows) (tables ts cs end [] []) → Chain m (tables us ds ps [] []) (map place_order rows) (tables us ds end [] [])
  places_wider ps [] end fields typed c = ap (λ (x : Book). tables us ds x.places [] []) c
  places_wider ps (r ∷ rows) end fields typed c =
      let put : List ℤ = pos r.parent ∷ pos r.step.constructor ∷ [] in
      let own : ℤ = pos r.step.field in (
        none_from_Clear (building_grounds m (tables us ds ps [] []) call.Place put own)
            (place_wider m ts us cs ds types constructors ps put own typed (Clear-from_none (building_grounds m (tables ts cs ps [] []) call.Place put own) c.0)),
        places_wider (ps ++ r ∷ []) rows end fields (typed_push ts cs ps r typed (place_typed m ts cs ps r fields c.0)) c.1,
      )

  module _ (ps qs : List PlaceRow) (places : Begins (places_from ts ps) (places_from us qs)) (typed : AllByRecursion (TypeKnown ts cs) (places_from ts ps)) where
    abbrev pub old : List NodeRow → List PairRow → Book
    old ns prs = tables ts cs ps ns prs

    abbrev pub new : List NodeRow → List PairRow → Book
    new ns prs = tables us ds qs ns prs

    abbrev Widens : List NodeRow → List PairRow → CallName → Type 0
    Widens ns prs x = (put : List ℤ) (own : ℤ) → Clear (building_grounds m (old ns prs) x put own) → Clear (building_grounds m (new ns prs) x put own)

    widened : (ns : List NodeRow) (prs : List PairRow) (x : CallName) → Widens ns prs x → (put : List ℤ) (own : ℤ)
        → refusal_of m (old ns prs) (make (order x put own)) ≡ None → refusal_of m (new ns prs) (make (order x put own)) ≡ None
    widened ns prs x w put own h = none_from_Clear (building_grounds m (new ns prs) x put own) (w put own (Clear-from_none (building_grounds m (old ns prs) x put own) h))

    pub nodes_wider : (all : List PairRow) (rows ns ns' : List NodeRow) (prs prs' : List PairRow)
        → Chain m (old ns prs) (map (node_order all) rows) (old ns' prs') → Chain m (new ns prs) (map (node_order all) rows) (new ns' prs')
    nodes_wider all [] ns ns' prs prs' c = ap (λ (x : Book). new x.nodes x.pairs) c
    nodes_wider all (Leaf a l ∷ rows) ns ns' prs prs' c =
        let x : Order = node_order all (Leaf a l) in (
          widened ns prs call.Leaf (leaf_wider m ts us cs ds types constructors ps qs ns prs places typed) x.put x.own c.0,
          nodes_wider all rows (ns ++ leaf_row x.put x.own ∷ []) ns' (prs ++ []) prs' c.1,
        )
    nodes_wider all (Fail ∷ rows) ns ns' prs prs' c = (c.0, nodes_wider all rows (ns ++ Fail ∷ []) ns' (prs ++ []) prs' c.1)
    nodes_wider all (Never ∷ rows) ns ns' prs prs' c = (c.0, nodes_wider all rows (ns ++ Never ∷ []) ns' (prs ++ []) prs' c.1)
    nodes_wider all (Switch p o first count ∷ rows) ns ns' prs prs' c =
        let x : Order = node_order all (Switch p o first count) in (
          widened ns prs call.Switch (switch_wider m ts us cs ds types constructors ps qs ns prs places typed) x.put x.own c.0,
          nodes_wider all rows (ns ++ switch_row (length prs) x.put x.own ∷ []) ns' (prs ++ pair_rows (drop 1 x.put)) prs' c.1,
        )
    nodes_wider all (Test p t y n ∷ rows) ns ns' prs prs' c =
        let x : Order = node_order all (Test p t y n) in (
          widened ns prs call.Test (test_wider m ts us cs ds types constructors ps qs ns prs places typed) x.put x.own c.0,
          nodes_wider all rows (ns ++ test_row x.put x.own ∷ []) ns' (prs ++ []) prs' c.1,
        )
    nodes_wider all (Ask g l y n ∷ rows) ns ns' prs prs' c =
        let x : Order = node_order all (Ask g l y n) in (
          widened ns prs call.Ask (ask_wider m ts us cs ds types constructors ps qs ns prs places typed) x.put x.own c.0,
          nodes_wider all rows (ns ++ ask_row x.put x.own ∷ []) ns' (prs ++ []) prs' c.1,
        )
