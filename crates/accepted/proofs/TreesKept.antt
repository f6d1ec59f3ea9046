-- In every workbook that calls can make, each tree fits, names listed places only, and keeps its limits.
use Rattle.std.proofs.Common.{◌≡◌, ℕ, zero, suc, ◌≤◌, true, false, List, [], ◌∷◌, ◌++◌, map, length, get_or, take, drop, ℤ, Some, None, Option, sym, refl, ap, ◌∙◌, subst, arith}
use Rattle.std.specs.List.{AllByRecursion, slice_get}
use Rattle.std.proofs.lemmas.List.{length-append, length-take}
use Rattle.std.proofs.lemmas.Bool.{ltb-false, or_parts, and_from}
use Rattle.measure.specs.Measure.{Measure}
use Rattle.guards.specs.Questions.{and_then}
use Rattle.pattern_file.specs.declared.names.CallName.TheVariants as call
use Rattle.rules.specs.declared.rows.TypeRow.{TypeRow}
use Rattle.rules.specs.declared.rows.ConstructorRow.{ConstructorRow}
use Rattle.rules.specs.declared.rows.PlaceRow.{PlaceRow}
use Rattle.rules.specs.declared.rows.PairRow.{PairRow}
use Rattle.rules.specs.declared.rows.NodeRow.{NodeRow}
use Rattle.rules.specs.declared.rows.NodeRow.TheVariants.{Leaf, Fail, Never, Switch, Test, Ask}
use Rattle.rules.specs.Tables.{unfolded, natural, naturals, up_to_four, named}
use Rattle.rules.specs.Book.{Book, Schema, is_choice, is_measured}
use Rattle.rules.specs.Garments.{Place, whole, place_type, steps_of}
use Rattle.rules.specs.Rows.{part, optional, leaf_row, pair_rows, switch_row, test_row, ask_row}
use Rattle.rules.specs.Trees.{Tree, Branches, fail, switch, places_from, places_at, branches_from, node_from, nodes_of, depth}
use Rattle.rules.specs.Grounds.{unknown, row_of, new_tree, building_grounds}
use Rattle.rules.specs.Calls.{Order}
use Rattle.rules.specs.Files.{node_order}
use Rattle.rules.proofs.Lists.{Clear, Clear-from_none, known, unfolded-push, AllByRecursion-push, AllByRecursion-weaker, take-drop-append}
use Rattle.rules.proofs.Chains.{Chain}
use Rattle.rules.proofs.Wider.{tables, TypeKnown, all_named}
use Rattle.rules.proofs.Sound.{Held}
use Rattle.theory.specs.ProperRuns.{PlacesFit, TreeFits, BranchesFit}
use Rattle.shown.specs.Interned.{among, all_among}
use Rattle.shown.specs.Budgets.{tree_among, branches_among}
use Rattle.shown.specs.ShownAnswers.{Short, TreeShort, BranchesShort}
use Rattle.accepted.proofs.Patterns.{schema, measured_row, slice_get-natural}
use Rattle.accepted.proofs.SheetKept.{choice_row}
use Rattle.accepted.proofs.PlacesKept.{PlaceKept, place_at, listed_at}
use Rattle.std.proofs.lemmas.Option.{get_or_from_slice_get}
use Rattle.rules.proofs.Kept.{held_more}
use Rattle.std.proofs.lemmas.List.Elements.{All-nil, All-cons, All-from_recursion}
use Rattle.theory.proofs.Naming.{same_made}

-- ── the pairs of earlier switches stay where they are ──

same_node : (places : List Place) (qs new : List PairRow) (before : List Tree) (r : NodeRow) → Held qs r → node_from places (qs ++ new) before r ≡ node_from places qs before r
same_node places qs new before (Leaf a ps) h = refl
same_node places qs new before Fail h = refl
same_node places qs new before Never h = refl
same_node places qs new before (Switch p o first count) h = ap (λ x. switch (get_or places p whole) (branches_from before x o)) (take-drop-append qs new first count h)
same_node places qs new before (Test p t y n) h = refl
same_node places qs new before (Ask g ps y n) h = refl

same_nodes : (places : List Place) (qs new : List PairRow) (rows : List NodeRow) → AllByRecursion (Held qs) rows
    → unfolded (node_from places (qs ++ new)) [] rows ≡ unfolded (node_from places qs) [] rows
same_nodes places qs new rows a =
    same_made (node_from places (qs ++ new)) (node_from places qs) (Held qs) (λ before r h. same_node places qs new before r h) [] rows (All-from_recursion (Held qs) rows a)

-- ── trees that keep the limits ──

-- the tree fits, its questions are short, its places are listed, and it is not too deep
pub record TreeKept (d : Schema) (table : List Place) (t : Tree) : Type 0 where
  pub fits : TreeFits d t
  pub short : TreeShort t
  pub listed : tree_among table t ≡ true
  pub shallow : depth t ≤ 32

-- what holds of the branches of such a tree, and of the places that it lists
record BranchesKept (d : Schema) (table : List Place) (bs : Branches) : Type 0 where
  fits : BranchesFit d bs
  short : BranchesShort bs
  listed : branches_among table bs ≡ true

record ListKept (d : Schema) (table ps : List Place) : Type 0 where
  fits : PlacesFit d ps
  short : Short ps
  listed : all_among table ps ≡ true

module _ (m : Measure) (ts : List TypeRow) (cs : List ConstructorRow) (ps : List PlaceRow)
    (kept : AllByRecursion (PlaceKept (schema ts cs)) (places_from ts ps)) (typed : AllByRecursion (TypeKnown ts cs) (places_from ts ps)) where
  abbrev d : Schema
  d = schema ts cs

  abbrev places : List Place
  places = places_from ts ps

  abbrev table : List Place
  table = whole ∷ drop 1 places

  list_kept : (ns : List ℕ) → ListKept d table (places_at places ns)
  list_kept [] = record { fits = tt; short = All-nil (λ p. length (steps_of p) ≤ 16); listed = refl }
  list_kept (n ∷ ns) =
      let p = place_at ts cs places n kept in
      let i = list_kept ns in
      record { fits = (p.fits, i.fits); short = All-cons (λ q. length (steps_of q) ≤ 16) (get_or places n whole) (places_at places ns) p.short i.short; listed = and_from (among table (get_or places n whole)) (all_among table (places_at places ns)) (listed_at ts ps n) i.listed }

  length_at : (ns : List ℕ) → length (places_at places ns) ≡ length ns
  length_at [] = refl
  length_at (n ∷ ns) = ap suc (length_at ns)

  few_at : (l : List ℕ) → length (places_at places (up_to_four l)) ≤ 4
  few_at l = omega (arith, length_at (up_to_four l), length-take 4 l)

  -- an unknown number is taken for a fail
  tree_at : (trees : List Tree) (n : ℕ) → AllByRecursion (TreeKept d table) trees → TreeKept d table (get_or trees n fail)
  tree_at [] n a = record { fits = tt; short = tt; listed = refl; shallow = omega arith }
  tree_at (t ∷ trees) zero a = a.0
  tree_at (t ∷ trees) (suc n) a = tree_at trees n a.1

  branches_kept : (trees : List Tree) (rows : List PairRow) (other : Option ℕ) → AllByRecursion (TreeKept d table) trees → BranchesKept d table (branches_from trees rows other)
  branches_kept trees [] None a = record { fits = tt; short = tt; listed = refl }
  branches_kept trees [] (Some n) a = let t = tree_at trees n a in record { fits = t.fits; short = t.short; listed = t.listed }
  branches_kept trees (r ∷ rows) other a =
      let t = tree_at trees r.node a in
      let i = branches_kept trees rows other a in
      record {
        fits = (t.fits, i.fits);
        short = (t.short, i.short);
        listed = and_from (tree_among table (get_or trees r.node fail)) (branches_among table (branches_from trees rows other)) t.listed i.listed;
      }

  -- the row of the type of the place that a known number names
  row_at : (z : ℤ) → unknown places z ≡ false → (t : ℕ) × (row : TypeRow) × (place_type d (get_or places (natural z) whole) ≡ Some t) × (slice_get ts t ≡ Some row)
      × (row_of d (and_then (named places z) (place_type d)) ≡ Some row)
  row_at z h =
      let k = known places z h in
      let y = all_named (TypeKnown ts cs) places z k.0 typed k.1 in
      let e : get_or places (natural z) whole ≡ k.0 = get_or_from_slice_get places (natural z) k.0 whole (slice_get-natural places z k.0 k.1) in (
        y.0,
        y.1,
        ap (place_type d) e ∙ y.2,
        y.3,
        ap (λ o. row_of d (and_then o (place_type d))) k.1 ∙ ap (row_of d) y.2 ∙ y.3,
      )

  module _ (ns : List NodeRow) (prs : List PairRow) (trees : AllByRecursion (TreeKept d table) (nodes_of (tables ts cs ps ns prs))) where
    abbrev b : Book
    b = tables ts cs ps ns prs

    leaf_kept : (put : List ℤ) (own : ℤ) → TreeKept d table (new_tree b [] (leaf_row put own))
    leaf_kept put own = let l = list_kept (up_to_four (naturals put)) in record { fits = l.fits; short = tt; listed = l.listed; shallow = omega arith }

    switch_kept : (put : List ℤ) (own : ℤ) → Clear (building_grounds m b call.Switch put own) → TreeKept d table (new_tree b (pair_rows (drop 1 put)) (switch_row (length prs) put own))
    switch_kept put own c =
        let new : List PairRow = pair_rows (drop 1 put) in
        let h = (or_parts (unknown places own) _ c.1.0).0 in
        let y = row_at own h in
        let choice = choice_row y.1 (sym (ap is_measured y.4) ∙ (or_parts (is_measured (row_of d (and_then (named places own) (place_type d)))) _ c.1.1.0).0) in
        let p = place_at ts cs places (natural own) kept in
        let bs = branches_kept (nodes_of b) (take (length new) (drop (length prs) (prs ++ new))) (optional (part put 0)) trees in
        let shallow = ltb-false 32 (depth (new_tree b new (switch_row (length prs) put own))) c.1.1.1.1.0 in
        record {
          fits = (p.fits, (y.0, y.2, y.3 ∙ ap Some choice), bs.fits);
          short = bs.short;
          listed = and_from (among table (get_or places (natural own) whole)) _ (listed_at ts ps (natural own)) bs.listed;
          shallow = omega arith;
        }

    test_kept : (put : List ℤ) (own : ℤ) → Clear (building_grounds m b call.Test put own) → TreeKept d table (new_tree b [] (test_row put own))
    test_kept put own c =
        let h = (or_parts (unknown places own) _ c.1.0).0 in
        let y = row_at own h in
        let s = measured_row y.1 (sym (ap is_choice y.4) ∙ c.1.1.0) in
        let p = place_at ts cs places (natural own) kept in
        let yes_tree = tree_at (nodes_of b) (natural (part put 1)) trees in
        let no_tree = tree_at (nodes_of b) (natural (part put 2)) trees in
        let shallow = ltb-false 32 (depth (new_tree b [] (test_row put own))) c.1.1.1.1.0 in
        record {
          fits = (p.fits, (y.0, s.0, y.2, y.3 ∙ ap Some s.1), yes_tree.fits, no_tree.fits);
          short = (yes_tree.short, no_tree.short);
          listed = and_from (among table (get_or places (natural own) whole)) _ (listed_at ts ps (natural own)) (and_from _ _ yes_tree.listed no_tree.listed);
          shallow = omega arith;
        }

    ask_kept : (put : List ℤ) (own : ℤ) → Clear (building_grounds m b call.Ask put own) → TreeKept d table (new_tree b [] (ask_row put own))
    ask_kept put own c =
        let l = list_kept (up_to_four (naturals (drop 2 put))) in
        let yes_tree = tree_at (nodes_of b) (natural (part put 0)) trees in
        let no_tree = tree_at (nodes_of b) (natural (part put 1)) trees in
        let shallow = ltb-false 32 (depth (new_tree b [] (ask_row put own))) c.1.1.0 in
        record {
          fits = (l.fits, yes_tree.fits, no_tree.fits);
          short = ((few_at (naturals (drop 2 put)), l.short), (yes_tree.short, no_tree.short));
          listed = and_from _ _ l.listed (and_from _ _ yes_tree.listed no_tree.listed);
          shallow = omega arith;
        }

  -- one more node
  pushed : (ns : List NodeRow) (prs new : List PairRow) (r : NodeRow) → AllByRecursion (Held prs) ns → AllByRecursion (TreeKept d table) (nodes_of (tables ts cs ps ns prs)) → TreeKept d table (new_tree (tables ts cs ps ns prs) new r)
      → AllByRecursion (TreeKept d table) (nodes_of (tables ts cs ps (ns ++ r ∷ []) (prs ++ new)))
  pushed ns prs new r held trees t =
      let before : List Tree = nodes_of (tables ts cs ps ns prs) in
      subst (AllByRecursion (TreeKept d table)) (sym (unfolded-push (node_from places (prs ++ new)) [] ns r ∙ ap (λ l. l ++ node_from places (prs ++ new) l r ∷ []) (same_nodes places prs new ns held)))
      (AllByRecursion-push (TreeKept d table) before (node_from places (prs ++ new) before r) trees t)

  Held-push : (ns : List NodeRow) (prs new : List PairRow) (r : NodeRow) → AllByRecursion (Held prs) ns → Held (prs ++ new) r → AllByRecursion (Held (prs ++ new)) (ns ++ r ∷ [])
  Held-push ns prs new r held h = AllByRecursion-push (Held (prs ++ new)) ns r (AllByRecursion-weaker (Held prs) (Held (prs ++ new)) (held_more prs new) ns held) h

  pub trees_kept : (all : List PairRow) (rows ns ns' : List NodeRow) (prs prs' : List PairRow) → AllByRecursion (Held prs) ns → AllByRecursion (TreeKept d table) (nodes_of (tables ts cs ps ns prs))
      → Chain m (tables ts cs ps ns prs) (map (node_order all) rows) (tables ts cs ps ns' prs') → AllByRecursion (TreeKept d table) (nodes_of (tables ts cs ps ns' prs'))
  trees_kept all [] ns ns' prs prs' held trees c = subst (λ (x : Book). AllByRecursion (TreeKept d table) (nodes_of (tables ts cs ps x.nodes x.pairs))) c trees
  trees_kept all (Leaf a l ∷ rows) ns ns' prs prs' held trees c =
      let x : Order = node_order all (Leaf a l) in
      let r : NodeRow = leaf_row x.put x.own in
      trees_kept all rows (ns ++ r ∷ []) ns' (prs ++ []) prs' (Held-push ns prs [] r held tt) (pushed ns prs [] r held trees (leaf_kept ns prs trees x.put x.own)) c.1
  trees_kept all (Fail ∷ rows) ns ns' prs prs' held trees c =
      trees_kept all rows (ns ++ Fail ∷ []) ns' (prs ++ []) prs' (Held-push ns prs [] Fail held tt)
      (pushed ns prs [] Fail held trees (record { fits = tt; short = tt; listed = refl; shallow = omega arith })) c.1
  trees_kept all (Never ∷ rows) ns ns' prs prs' held trees c =
      trees_kept all rows (ns ++ Never ∷ []) ns' (prs ++ []) prs' (Held-push ns prs [] Never held tt)
      (pushed ns prs [] Never held trees (record { fits = tt; short = tt; listed = refl; shallow = omega arith })) c.1
  trees_kept all (Switch p o first count ∷ rows) ns ns' prs prs' held trees c =
      let x : Order = node_order all (Switch p o first count) in
      let r : NodeRow = switch_row (length prs) x.put x.own in
      let new : List PairRow = pair_rows (drop 1 x.put) in
      let l = length-append prs new in
      let g = Clear-from_none (building_grounds m (tables ts cs ps ns prs) call.Switch x.put x.own) c.0 in
      trees_kept all rows (ns ++ r ∷ []) ns' (prs ++ new) prs' (Held-push ns prs new r held (omega arith)) (pushed ns prs new r held trees (switch_kept ns prs trees x.put x.own g)) c.1
  trees_kept all (Test p t y n ∷ rows) ns ns' prs prs' held trees c =
      let x : Order = node_order all (Test p t y n) in
      let r : NodeRow = test_row x.put x.own in
      let g = Clear-from_none (building_grounds m (tables ts cs ps ns prs) call.Test x.put x.own) c.0 in
      trees_kept all rows (ns ++ r ∷ []) ns' (prs ++ []) prs' (Held-push ns prs [] r held tt) (pushed ns prs [] r held trees (test_kept ns prs trees x.put x.own g)) c.1
  trees_kept all (Ask a l y n ∷ rows) ns ns' prs prs' held trees c =
      let x : Order = node_order all (Ask a l y n) in
      let r : NodeRow = ask_row x.put x.own in
      let g = Clear-from_none (building_grounds m (tables ts cs ps ns prs) call.Ask x.put x.own) c.0 in
      trees_kept all rows (ns ++ r ∷ []) ns' (prs ++ []) prs' (Held-push ns prs [] r held tt) (pushed ns prs [] r held trees (ask_kept ns prs trees x.put x.own g)) c.1
