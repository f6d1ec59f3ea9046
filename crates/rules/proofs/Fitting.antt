-- The numbers that a release writes are signed 64-bit numbers.
use Rattle.std.proofs.Common.{◌≡◌, ℕ, ◌<◌, ◌≤◌, Bool, true, false, not, ◌&&◌, ◌||◌, eqb, ltb, leb, List, [], ◌∷◌, ◌++◌, map, length, drop, ℤ, pos, negsuc, is_some, Some, Option, sym, refl, ap, ◌∙◌, ⊎_elim, arith, w64, SFits}
use Rattle.std.specs.List.{flat_map, AllByRecursion}
use Rattle.std.proofs.lemmas.List.{length-map}
use Rattle.std.proofs.lemmas.Option.{slice_get_past}
use Rattle.std.proofs.lemmas.Bool.{true≢false, not-false, eqb-true, cases_lt, ltb-true, ltb-false, leb-false, or_parts, and_cases}
use Rattle.measure.specs.Measure.{Measure, Lawful}
use Rattle.guards.specs.Questions.{and_then}
use Rattle.pattern_file.specs.declared.entries.Entry.{Entry}
use Rattle.pattern_file.specs.declared.names.CallName.{CallName}
use Rattle.pattern_file.specs.declared.names.CallName.TheVariants as call
use Rattle.pattern_file.specs.Names.{tag_of}
use Rattle.rules.specs.declared.rows.TypeRow.{TypeRow}
use Rattle.rules.specs.declared.rows.TypeRow.TheVariants.{Choice, Measured}
use Rattle.rules.specs.declared.rows.ConstructorRow.{ConstructorRow}
use Rattle.rules.specs.declared.rows.PlaceRow.{PlaceRow}
use Rattle.rules.specs.declared.rows.PairRow.{PairRow}
use Rattle.rules.specs.declared.rows.NodeRow.{NodeRow}
use Rattle.rules.specs.declared.rows.NodeRow.TheVariants.{Leaf, Fail, Never, Switch, Test, Ask}
use Rattle.rules.specs.Tables.{named}
use Rattle.rules.specs.Book.{Book, fields_in, is_choice, sort_in, most_places, most_nodes}
use Rattle.rules.specs.Garments.{place_type}
use Rattle.rules.specs.Rows.{constructor_row, leaf_row, pair_rows, switch_row, test_row, ask_row}
use Rattle.rules.specs.Trees.{places_from}
use Rattle.rules.specs.Grounds.{unknown, any_unknown, is_minus_one, is_code, row_of, no_test_of, evens, odds, building_grounds}
use Rattle.rules.specs.Calls.{Order}
use Rattle.rules.specs.Files.{or_minus_one, type_order, constructor_order, place_order, node_order, order_entries}
use Rattle.rules.proofs.Chains.{Chain}
use Rattle.rules.proofs.Lists.{Clear-from_none, known, AllByRecursion-append}
use Rattle.rules.proofs.Wider.{tables, TypeKnown, all_named}
use Rattle.rules.proofs.Sound.{fields_known, whole_typed, places_typed}
use Rattle.rules.proofs.Entries.{types_within, constructors_within, places_within, places_length}
use Rattle.rules.proofs.Kept.{SoundBook}

-- ── single numbers ──

small_fits : (n : ℕ) → n < 65536 → SFits w64 (pos n)
small_fits n h = record { sfits = omega arith }

minus_fits : (n : ℕ) → not (eqb n 0) ≡ false → SFits w64 (negsuc n)
minus_fits n h = let e = eqb-true n 0 (not-false (eqb n 0) h) in record { sfits = omega arith }

code_fits : (z : ℤ) → not (is_code z) ≡ false → SFits w64 z
code_fits (pos n) h = small_fits n (ltb-true n 65536 (not-false (ltb n 65536) h))
code_fits (negsuc n) h = absurd (true≢false h)

module _ {A : Type 0} (xs : List A) (few : length xs ≤ 256) where
  known_fits : (z : ℤ) → unknown xs z ≡ false → SFits w64 z
  known_fits (pos n) h =
      ⊎_elim (λ l. small_fits n (omega arith)) (λ l. absurd (true≢false (sym (ap (λ (o : Option A). not (is_some o)) (slice_get_past xs n l)) ∙ h))) (cases_lt n (length xs))
  known_fits (negsuc n) h = absurd (true≢false h)

  All-known_fit : (zs : List ℤ) → any_unknown xs zs ≡ false → AllByRecursion (SFits w64) zs
  All-known_fit [] h = tt
  All-known_fit (z ∷ zs) h = let k = or_parts (unknown xs z) (any_unknown xs zs) h in (known_fits z k.0, All-known_fit zs k.1)

  other_fits : (z : ℤ) → (not (is_minus_one z) && unknown xs z) ≡ false → SFits w64 z
  other_fits (pos n) h = known_fits (pos n) h
  other_fits (negsuc n) h = minus_fits n (⊎_elim (λ e. e) (λ e. absurd (true≢false e)) (and_cases (not (eqb n 0)) true h))

pairs_fit : {A B : Type 0} (xs : List A) (ys : List B) → length xs ≤ 256 → length ys ≤ 256 → (zs : List ℤ) → any_unknown xs (evens zs) ≡ false → any_unknown ys (odds zs) ≡ false → AllByRecursion (SFits w64) zs
pairs_fit xs ys l k [] h i = tt
pairs_fit xs ys l k (c ∷ []) h i = All-known_fit xs l (c ∷ []) h
pairs_fit xs ys l k (c ∷ n ∷ zs) h i =
    let p = or_parts (unknown xs c) (any_unknown xs (evens zs)) h in
    let q = or_parts (unknown ys n) (any_unknown ys (odds zs)) i in
    (known_fits xs l c p.0, (known_fits ys k n q.0, pairs_fit xs ys l k zs p.1 q.1))

-- ── the orders of each table ──

-- the numbers of an order
abbrev pub Fit : Order → Type 0
Fit o = AllByRecursion (SFits w64) o.put × SFits w64 o.own

module _ (m : Measure) (lawful : Lawful m) where
  types_Fit : (ts rows : List TypeRow) (end : Book) → Chain m (tables ts [] [] [] []) (map type_order rows) end → AllByRecursion Fit (map type_order rows)
  types_Fit ts [] end c = tt
  types_Fit ts (Choice ∷ rows) end c = ((tt, minus_fits 0 refl), types_Fit (ts ++ Choice ∷ []) rows end c.1)
  types_Fit ts (Measured s ∷ rows) end c =
      let k = Clear-from_none (building_grounds m (tables ts [] [] [] []) call.«Type» [] (pos s)) c.0 in
      ((tt, small_fits s (lawful.sorts s (not-false (m.serves s) k.1.0))), types_Fit (ts ++ Measured s ∷ []) rows end c.1)

  -- at most four fields
  abbrev FewFields : ConstructorRow → Type 0
  FewFields r = length r.fields ≤ 256

  constructors_fit : (ts : List TypeRow) (cs rows : List ConstructorRow) (end : Book) → length ts ≤ 256 → Chain m (tables ts cs [] [] []) (map constructor_order rows) end
      → AllByRecursion Fit (map constructor_order rows) × AllByRecursion FewFields rows
  constructors_fit ts cs [] end l c = (tt, tt)
  constructors_fit ts cs (r ∷ rows) end l c =
      let x : Order = constructor_order r in
      let k = Clear-from_none (building_grounds m (tables ts cs [] [] []) call.Constructor x.put x.own) c.0 in
      let j = or_parts (unknown ts x.own) (any_unknown ts x.put) k.1.0 in
      let n = ltb-false 4 (length x.put) k.0 in
      let e = length-map r.fields pos in
      let i = constructors_fit ts (cs ++ constructor_row x.put x.own ∷ []) rows end l c.1 in
      (((All-known_fit ts l x.put j.1, known_fits ts l x.own j.0), i.0), (omega arith, i.1))

  few_in : (o : Option ConstructorRow) (r : ConstructorRow) → o ≡ Some r → FewFields r → length (fields_in o) ≤ 256
  few_in o r e l = let k = ap (λ u. length (fields_in u)) e in omega arith

  places_fit : (ts : List TypeRow) (cs : List ConstructorRow) (ps rows : List PlaceRow) (end : Book) → length cs ≤ 256 → AllByRecursion FewFields cs
      → Chain m (tables ts cs ps [] []) (map place_order rows) end → AllByRecursion Fit (map place_order rows)
  places_fit ts cs ps [] end l few c = tt
  places_fit ts cs ps (r ∷ rows) end l few c =
      let x : Order = place_order r in
      let s : ℤ = pos r.step.constructor in
      let k = Clear-from_none (building_grounds m (tables ts cs ps [] []) call.Place x.put x.own) c.0 in
      let j = or_parts (unknown (places_from ts ps) (pos r.parent)) (unknown cs s || unknown (fields_in (named cs s)) x.own) k.1.0 in
      let i = or_parts (unknown cs s) (unknown (fields_in (named cs s)) x.own) j.1 in
      let n = leb-false most_places (length (places_from ts ps)) k.1.1.1.1.0 in
      let w = known cs s i.0 in
      let f = few_in (named cs s) w.0 w.1 (all_named FewFields cs s w.0 few w.1) in (
        ((known_fits (places_from ts ps) (omega arith) (pos r.parent) j.0, (known_fits cs l s i.0, tt)), known_fits (fields_in (named cs s)) f x.own i.1),
        places_fit ts cs (ps ++ r ∷ []) rows end l few c.1,
      )

  -- the test of a node is one of the sort at its place
  row_test_fits : (row : TypeRow) (t : ℤ) → is_choice (Some row) ≡ false → no_test_of m (sort_in (Some row)) t ≡ false → SFits w64 t
  row_test_fits Choice t h k = absurd (true≢false h)
  row_test_fits (Measured s) t h k = lawful.test_fits s t (not-false (m.test s t) k)

  module _ (ts : List TypeRow) (cs : List ConstructorRow) (ps : List PlaceRow) (all : List PairRow) (end : Book)
      (few_constructors : length cs ≤ 256) (few_places : length (places_from ts ps) ≤ 256) (typed : AllByRecursion (TypeKnown ts cs) (places_from ts ps)) where
    test_fits : (ns : List NodeRow) (qs : List PairRow) (p : ℤ) (t : ℤ) → unknown (places_from ts ps) p ≡ false
        → is_choice (row_of (record { types = ts; constructors = cs }) (and_then (named (places_from ts ps) p) (place_type (record { types = ts; constructors = cs })))) ≡ false
        → no_test_of m (sort_in (row_of (record { types = ts; constructors = cs }) (and_then (named (places_from ts ps) p) (place_type (record { types = ts; constructors = cs }))))) t ≡ false
        → SFits w64 t
    test_fits ns qs p t h c k =
        let w = known (places_from ts ps) p h in
        let y = all_named (TypeKnown ts cs) (places_from ts ps) p w.0 typed w.1 in
        let e : row_of (record { types = ts; constructors = cs }) (and_then (named (places_from ts ps) p) (place_type (record { types = ts; constructors = cs }))) ≡ Some y.1 =
        ap (λ o. row_of (record { types = ts; constructors = cs }) (and_then o (place_type (record { types = ts; constructors = cs })))) w.1
        ∙ ap (row_of (record { types = ts; constructors = cs })) y.2 ∙ y.3 in
        row_test_fits y.1 t (sym (ap is_choice e) ∙ c) (sym (ap (λ o. no_test_of m (sort_in o) t) e) ∙ k)

    few_nodes : (ns : List NodeRow) → leb most_nodes (length ns) ≡ false → length ns ≤ 256
    few_nodes ns h = let f = leb-false most_nodes (length ns) h in omega arith

    nodes_Fit : (ns : List NodeRow) (qs : List PairRow) (rows : List NodeRow) → Chain m (tables ts cs ps ns qs) (map (node_order all) rows) end → AllByRecursion Fit (map (node_order all) rows)
    nodes_Fit ns qs [] c = tt
    nodes_Fit ns qs (Leaf a p ∷ rows) c =
        let x : Order = node_order all (Leaf a p) in
        let g = Clear-from_none (building_grounds m (tables ts cs ps ns qs) call.Leaf x.put x.own) c.0 in
        let k = or_parts (not (is_code x.own)) (any_unknown (places_from ts ps) x.put) g.1.0 in (
          (All-known_fit (places_from ts ps) few_places x.put k.1, code_fits x.own k.0),
          nodes_Fit (ns ++ leaf_row x.put x.own ∷ []) (qs ++ []) rows c.1,
        )
    nodes_Fit ns qs (Fail ∷ rows) c = ((tt, small_fits 0 (omega arith)), nodes_Fit (ns ++ Fail ∷ []) (qs ++ []) rows c.1)
    nodes_Fit ns qs (Never ∷ rows) c = ((tt, small_fits 0 (omega arith)), nodes_Fit (ns ++ Never ∷ []) (qs ++ []) rows c.1)
    nodes_Fit ns qs (Switch p o first count ∷ rows) c =
        let x : Order = node_order all (Switch p o first count) in
        let rest : List ℤ = drop 1 x.put in
        let other : Bool = (not (is_minus_one (or_minus_one o)) && unknown ns (or_minus_one o)) in
        let g = Clear-from_none (building_grounds m (tables ts cs ps ns qs) call.Switch x.put x.own) c.0 in
        let k = or_parts (unknown (places_from ts ps) x.own) (other || (any_unknown cs (evens rest) || any_unknown ns (odds rest))) g.1.0 in
        let j = or_parts other (any_unknown cs (evens rest) || any_unknown ns (odds rest)) k.1 in
        let i = or_parts (any_unknown cs (evens rest)) (any_unknown ns (odds rest)) j.1 in
        let f = few_nodes ns (or_parts (leb most_nodes (length ns)) _ g.1.1.1.1.1.0).0 in (
          ((other_fits ns f (or_minus_one o) j.0, pairs_fit cs ns few_constructors f rest i.0 i.1), known_fits (places_from ts ps) few_places x.own k.0),
          nodes_Fit (ns ++ switch_row (length qs) x.put x.own ∷ []) (qs ++ pair_rows rest) rows c.1,
        )
    nodes_Fit ns qs (Test p t y n ∷ rows) c =
        let x : Order = node_order all (Test p t y n) in
        let g = Clear-from_none (building_grounds m (tables ts cs ps ns qs) call.Test x.put x.own) c.0 in
        let k = or_parts (unknown (places_from ts ps) (pos p)) (unknown ns (pos y) || unknown ns (pos n)) g.1.0 in
        let j = or_parts (unknown ns (pos y)) (unknown ns (pos n)) k.1 in
        let f = few_nodes ns g.1.1.1.1.1.0 in (
          ((test_fits ns qs (pos p) t k.0 g.1.1.0 g.1.1.1.0, (known_fits ns f (pos y) j.0, (known_fits ns f (pos n) j.1, tt))), known_fits (places_from ts ps) few_places (pos p) k.0),
          nodes_Fit (ns ++ test_row x.put x.own ∷ []) (qs ++ []) rows c.1,
        )
    nodes_Fit ns qs (Ask a p y n ∷ rows) c =
        let x : Order = node_order all (Ask a p y n) in
        let rest : List ℤ = drop 2 x.put in
        let g = Clear-from_none (building_grounds m (tables ts cs ps ns qs) call.Ask x.put x.own) c.0 in
        let k = or_parts (not (is_code x.own)) ((unknown ns (pos y) || unknown ns (pos n)) || any_unknown (places_from ts ps) rest) g.1.0 in
        let j = or_parts (unknown ns (pos y) || unknown ns (pos n)) (any_unknown (places_from ts ps) rest) k.1 in
        let i = or_parts (unknown ns (pos y)) (unknown ns (pos n)) j.0 in
        let f = few_nodes ns g.1.1.1.0 in (
          ((known_fits ns f (pos y) i.0, (known_fits ns f (pos n) i.1, All-known_fit (places_from ts ps) few_places rest j.1)), code_fits x.own k.0),
          nodes_Fit (ns ++ ask_row x.put x.own ∷ []) (qs ++ []) rows c.1,
        )

-- ── the entries ──

tag_small : (x : CallName) → tag_of x < 16
tag_small call.«Type» = omega arith
tag_small call.Constructor = omega arith
tag_small call.Any = omega arith
tag_small call.Bind = omega arith
tag_small call.Build = omega arith
tag_small call.Either = omega arith
tag_small call.Gauge = omega arith
tag_small call.Clause = omega arith
tag_small call.Place = omega arith
tag_small call.Leaf = omega arith
tag_small call.Fail = omega arith
tag_small call.Never = omega arith
tag_small call.Switch = omega arith
tag_small call.Test = omega arith
tag_small call.Ask = omega arith

abbrev pub EntryFits : Entry → Type 0
EntryFits e = (e.tag < 16) × SFits w64 e.number

put_fit : (zs : List ℤ) → AllByRecursion (SFits w64) zs → AllByRecursion EntryFits (map (λ z. record { tag = 0; number = z }) zs)
put_fit [] a = tt
put_fit (z ∷ zs) a = ((omega arith, a.0), put_fit zs a.1)

pub orders_entries : (os : List Order) → AllByRecursion Fit os → AllByRecursion EntryFits (flat_map order_entries os)
orders_entries [] a = tt
orders_entries (o ∷ os) a =
    AllByRecursion-append EntryFits (order_entries o) (flat_map order_entries os)
    (AllByRecursion-append EntryFits (map (λ z. record { tag = 0; number = z }) o.put) (record { tag = tag_of o.name; number = o.own } ∷ []) (put_fit o.put a.0.0) ((tag_small o.name, a.0.1), tt))
    (orders_entries os a.1)

-- the orders of all four tables
pub record TablesFit (b : Book) : Type 0 where
  pub types : AllByRecursion Fit (map type_order b.types)
  pub constructors : AllByRecursion Fit (map constructor_order b.constructors)
  pub places : AllByRecursion Fit (map place_order b.places)
  pub nodes : AllByRecursion Fit (map (node_order b.pairs) b.nodes)

pub tables_fit : (m : Measure) (b : Book) → Lawful m → SoundBook m b → TablesFit b
tables_fit m b lawful s =
    let t = types_within m [] b.types b.types (omega arith) s.types in
    let c = constructors_within m b.types [] b.constructors b.constructors (omega arith) s.constructors in
    let p = places_within m b.types b.constructors [] b.places b.places (omega arith) s.places in
    let q = places_length b.types b.places in
    let stage2 : Book = tables b.types b.constructors [] [] [] in
    let k = constructors_fit m lawful b.types [] b.constructors stage2 (omega arith) s.constructors in
    let fields = fields_known m b.types [] b.constructors stage2 s.constructors in
    let typed = places_typed m b.types b.constructors [] b.places b.places fields (whole_typed b.types b.constructors) s.places in
    record {
      types = types_Fit m lawful [] b.types (tables b.types [] [] [] []) s.types;
      constructors = k.0;
      places = places_fit m lawful b.types b.constructors [] b.places (tables b.types b.constructors b.places [] []) (omega arith) k.1 s.places;
      nodes = nodes_Fit m lawful b.types b.constructors b.places b.pairs (tables b.types b.constructors b.places b.nodes b.pairs) (omega arith) (omega arith) typed [] [] b.nodes
          s.nodes;
    }
