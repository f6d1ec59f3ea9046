-- How many entries a release has at most.
use Rattle.std.proofs.Common.{◌≡◌, ℕ, suc, ◌+◌, ◌*◌, ◌≤◌, false, ltb, leb, List, [], ◌∷◌, ◌++◌, map, length, take, drop, ℤ, pos, negsuc, refl, ap, ◌∙◌, arith}
use Rattle.std.specs.List.{flat_map}
use Rattle.std.proofs.lemmas.List.{length-append, length-map, length_push}
use Rattle.std.proofs.lemmas.Bool.{true≢false, ltb-false, leb-false, or_parts}
use Rattle.measure.specs.Measure.{Measure}
use Rattle.pattern_file.specs.declared.names.CallName.TheVariants as call
use Rattle.rules.specs.declared.rows.TypeRow.{TypeRow}
use Rattle.rules.specs.declared.rows.TypeRow.TheVariants.{Choice, Measured}
use Rattle.rules.specs.declared.rows.ConstructorRow.{ConstructorRow}
use Rattle.rules.specs.declared.rows.PlaceRow.{PlaceRow}
use Rattle.rules.specs.declared.rows.PairRow.{PairRow}
use Rattle.rules.specs.declared.rows.NodeRow.{NodeRow}
use Rattle.rules.specs.declared.rows.NodeRow.TheVariants.{Leaf, Fail, Never, Switch, Test, Ask}
use Rattle.rules.specs.Book.{Book, most_types, most_constructors, most_places, most_nodes, most_pairs}
use Rattle.rules.specs.Garments.{whole}
use Rattle.rules.specs.Rows.{constructor_row, leaf_row, pair_rows, switch_row, test_row, ask_row}
use Rattle.rules.specs.Trees.{place_from, places_from}
use Rattle.rules.specs.Grounds.{building_grounds, unknown}
use Rattle.rules.specs.Calls.{Order}
use Rattle.rules.specs.Files.{type_order, constructor_order, place_order, pair_numbers, node_order, order_entries}
use Rattle.rules.proofs.Chains.{Chain}
use Rattle.rules.proofs.Lists.{Clear-from_none, length-unfolded}
use Rattle.rules.proofs.Wider.{tables}

-- the entries of orders
abbrev pub entries : List Order → ℕ
entries os = length (flat_map order_entries os)

one_order : (o : Order) → length (order_entries o) ≡ length o.put + 1
one_order o =
    length-append (map (λ z. record { tag = 0; number = z }) o.put) (record { tag = _; number = o.own } ∷ []) ∙ ap (λ n. n + 1) (length-map o.put (λ z. record { tag = 0; number = z }))

pub more_orders : (o : Order) (os : List Order) → entries (o ∷ os) ≡ length o.put + 1 + entries os
more_orders o os = length-append (order_entries o) (flat_map order_entries os) ∙ ap (λ n. n + entries os) (one_order o)

pub joined_append : (os ps : List Order) → entries (os ++ ps) ≡ entries os + entries ps
joined_append [] ps = omega arith
joined_append (o ∷ os) ps = let e = more_orders o (os ++ ps) in let f = more_orders o os in let g = joined_append os ps in omega arith

pub types_within : (m : Measure) (ts rows end : List TypeRow) → length ts ≤ most_types → Chain m (tables ts [] [] [] []) (map type_order rows) (tables end [] [] [] [])
    → (length end ≤ most_types) × (entries (map type_order rows) ≤ length rows)
types_within m ts [] end l c = let e = ap (λ (b : Book). length b.types) c in (omega arith, omega arith)
types_within m ts (Choice ∷ rows) end l c =
    let k = Clear-from_none (building_grounds m (tables ts [] [] [] []) call.«Type» [] (negsuc 0)) c.0 in
    let f = leb-false most_types (length ts) k.1.1.0 in
    let p = length_push ts Choice in
    let i = types_within m (ts ++ Choice ∷ []) rows end (omega arith) c.1 in
    let e = more_orders (type_order Choice) (map type_order rows) in
    (i.0, omega arith)
types_within m ts (Measured s ∷ rows) end l c =
    let k = Clear-from_none (building_grounds m (tables ts [] [] [] []) call.«Type» [] (pos s)) c.0 in
    let f = leb-false most_types (length ts) k.1.1.0 in
    let p = length_push ts (Measured s) in
    let i = types_within m (ts ++ Measured s ∷ []) rows end (omega arith) c.1 in
    let e = more_orders (type_order (Measured s)) (map type_order rows) in
    (i.0, omega arith)

pub constructors_within : (m : Measure) (ts : List TypeRow) (cs rows end : List ConstructorRow) → length cs ≤ most_constructors
    → Chain m (tables ts cs [] [] []) (map constructor_order rows) (tables ts end [] [] []) → (length end ≤ most_constructors) × (entries (map constructor_order rows) ≤ 5 * length rows)
constructors_within m ts cs [] end l c = let e = ap (λ (b : Book). length b.constructors) c in (omega arith, omega arith)
constructors_within m ts cs (r ∷ rows) end l c =
    let put : List ℤ = map pos r.fields in
    let k = Clear-from_none (building_grounds m (tables ts cs [] [] []) call.Constructor put (pos r.owner)) c.0 in
    let f = leb-false most_constructors (length cs) k.1.1.1.0 in
    let g = ltb-false 4 (length put) k.0 in
    let p = length_push cs (constructor_row put (pos r.owner)) in
    let i = constructors_within m ts (cs ++ constructor_row put (pos r.owner) ∷ []) rows end (omega arith) c.1 in
    let e = more_orders (constructor_order r) (map constructor_order rows) in
    (i.0, omega arith)

places_counted : (ts : List TypeRow) (ps : List PlaceRow) (z : ℤ) → unknown (places_from ts ps) z ≡ false → length (places_from ts ps) ≡ 1 + length ps
places_counted [] ps (pos n) h = absurd (true≢false h)
places_counted [] ps (negsuc n) h = absurd (true≢false h)
places_counted (t ∷ ts) ps z h = length-unfolded place_from (whole ∷ []) ps

pub places_length : (ts : List TypeRow) (ps : List PlaceRow) → length (places_from ts ps) ≤ 1 + length ps
places_length [] ps = omega arith
places_length (t ∷ ts) ps = let e = length-unfolded place_from (whole ∷ []) ps in omega arith

pub places_within : (m : Measure) (ts : List TypeRow) (cs : List ConstructorRow) (ps rows end : List PlaceRow) → length ps + 1 ≤ most_places
    → Chain m (tables ts cs ps [] []) (map place_order rows) (tables ts cs end [] []) → (length end + 1 ≤ most_places) × (entries (map place_order rows) ≤ 3 * length rows)
places_within m ts cs ps [] end l c = let e = ap (λ (b : Book). length b.places) c in (omega arith, omega arith)
places_within m ts cs ps (r ∷ rows) end l c =
    let k = Clear-from_none (building_grounds m (tables ts cs ps [] []) call.Place (place_order r).put (place_order r).own) c.0 in
    let n = places_counted ts ps (pos r.parent) (or_parts (unknown (places_from ts ps) (pos r.parent)) _ k.1.0).0 in
    let f = leb-false most_places (length (places_from ts ps)) k.1.1.1.1.0 in
    let p = length_push ps r in
    let i = places_within m ts cs (ps ++ r ∷ []) rows end (omega arith) c.1 in
    let e = more_orders (place_order r) (map place_order rows) in
    (i.0, omega arith)

length_pairs : (qs : List PairRow) → (length (pair_numbers qs) ≡ 2 * length qs) × (length (pair_rows (pair_numbers qs)) ≡ length qs)
length_pairs [] = (refl, refl)
length_pairs (q ∷ qs) = let i = length_pairs qs in (omega arith, ap suc i.1)

module _ (m : Measure) (ts : List TypeRow) (cs : List ConstructorRow) (ps : List PlaceRow) (all : List PairRow) where
  abbrev at : List NodeRow → List PairRow → Book
  at ns qs = tables ts cs ps ns qs

  -- nodes, pairs, and entries: seven for each node, and two for each pair
  abbrev NodesWithin : List NodeRow → List PairRow → List NodeRow → List NodeRow → List PairRow → Type 0
  NodesWithin ns qs rows ns' qs' =
      (length ns' ≤ most_nodes) × (length qs' ≤ most_pairs) × (entries (map (node_order all) rows) + 2 * length qs ≤ 7 * length rows + 2 * length qs')

  -- one more node, of at most six numbers besides its pairs
  one_more : (ns : List NodeRow) (qs : List PairRow) (r : NodeRow) (rows ns' : List NodeRow) (qs' : List PairRow) (row : NodeRow) (new : List PairRow)
      → length (node_order all r).put ≤ 6 + 2 * length new → NodesWithin (ns ++ row ∷ []) (qs ++ new) rows ns' qs' → NodesWithin ns qs (r ∷ rows) ns' qs'
  one_more ns qs r rows ns' qs' row new l i =
      let e = more_orders (node_order all r) (map (node_order all) rows) in
      let k = length-append qs new in
      (i.0, i.1, omega arith)

  room : (ns : List NodeRow) (row : NodeRow) → leb most_nodes (length ns) ≡ false → length (ns ++ row ∷ []) ≤ most_nodes
  room ns row h = let f = leb-false most_nodes (length ns) h in let p = length_push ns row in omega arith

  no_pairs : (qs : List PairRow) → length qs ≤ most_pairs → length (qs ++ []) ≤ most_pairs
  no_pairs qs l = let e = length-append {A = PairRow} qs [] in omega arith

  pub nodes_within : (ns : List NodeRow) (qs : List PairRow) (rows ns' : List NodeRow) (qs' : List PairRow) → length ns ≤ most_nodes → length qs ≤ most_pairs
      → Chain m (at ns qs) (map (node_order all) rows) (at ns' qs') → NodesWithin ns qs rows ns' qs'
  nodes_within ns qs [] ns' qs' l k c =
      let e = ap (λ (b : Book). length b.nodes) c in
      let f = ap (λ (b : Book). length b.pairs) c in
      (omega arith, omega arith, omega arith)
  nodes_within ns qs (Leaf a p ∷ rows) ns' qs' l k c =
      let x : Order = node_order all (Leaf a p) in
      let g = Clear-from_none (building_grounds m (at ns qs) call.Leaf x.put x.own) c.0 in
      let f = ltb-false 4 (length x.put) g.0 in
      let row : NodeRow = leaf_row x.put x.own in
      one_more ns qs (Leaf a p) rows ns' qs' row [] (omega arith) (nodes_within (ns ++ row ∷ []) (qs ++ []) rows ns' qs' (room ns row g.1.1.0) (no_pairs qs k) c.1)
  nodes_within ns qs (Fail ∷ rows) ns' qs' l k c =
      let g = Clear-from_none (building_grounds m (at ns qs) call.Fail (node_order all Fail).put (node_order all Fail).own) c.0 in
      one_more ns qs Fail rows ns' qs' Fail [] (omega arith) (nodes_within (ns ++ Fail ∷ []) (qs ++ []) rows ns' qs' (room ns Fail g.1.1.0) (no_pairs qs k) c.1)
  nodes_within ns qs (Never ∷ rows) ns' qs' l k c =
      let g = Clear-from_none (building_grounds m (at ns qs) call.Never (node_order all Never).put (node_order all Never).own) c.0 in
      one_more ns qs Never rows ns' qs' Never [] (omega arith) (nodes_within (ns ++ Never ∷ []) (qs ++ []) rows ns' qs' (room ns Never g.1.1.0) (no_pairs qs k) c.1)
  nodes_within ns qs (Switch p o first count ∷ rows) ns' qs' l k c =
      let x : Order = node_order all (Switch p o first count) in
      let new : List PairRow = pair_rows (drop 1 x.put) in
      let g = Clear-from_none (building_grounds m (at ns qs) call.Switch x.put x.own) c.0 in
      let n = length_pairs (take count (drop first all)) in
      let f = or_parts (leb most_nodes (length ns)) (ltb most_pairs (length qs + length new)) g.1.1.1.1.1.0 in
      let j = ltb-false most_pairs (length qs + length new) f.1 in
      let e = length-append qs new in
      let row : NodeRow = switch_row (length qs) x.put x.own in
      one_more ns qs (Switch p o first count) rows ns' qs' row new (omega arith) (nodes_within (ns ++ row ∷ []) (qs ++ new) rows ns' qs' (room ns row f.0) (omega arith) c.1)
  nodes_within ns qs (Test p t y n ∷ rows) ns' qs' l k c =
      let x : Order = node_order all (Test p t y n) in
      let g = Clear-from_none (building_grounds m (at ns qs) call.Test x.put x.own) c.0 in
      let row : NodeRow = test_row x.put x.own in
      one_more ns qs (Test p t y n) rows ns' qs' row [] (omega arith) (nodes_within (ns ++ row ∷ []) (qs ++ []) rows ns' qs' (room ns row g.1.1.1.1.1.0) (no_pairs qs k) c.1)
  nodes_within ns qs (Ask a p y n ∷ rows) ns' qs' l k c =
      let x : Order = node_order all (Ask a p y n) in
      let g = Clear-from_none (building_grounds m (at ns qs) call.Ask x.put x.own) c.0 in
      let f = ltb-false 6 (length x.put) (or_parts (ltb (length x.put) 2) (ltb 6 (length x.put)) g.0).1 in
      let row : NodeRow = ask_row x.put x.own in
      one_more ns qs (Ask a p y n) rows ns' qs' row [] (omega arith) (nodes_within (ns ++ row ∷ []) (qs ++ []) rows ns' qs' (room ns row g.1.1.1.0) (no_pairs qs k) c.1)
