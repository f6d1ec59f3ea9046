-- Rows that name only earlier rows are made of the meanings of the whole table.
use Rattle.std.proofs.Common.{◌≡◌, ℕ, suc, ◌+◌, ◌<◌, cond, eqb, List, [], ◌∷◌, ◌++◌, length, get_or, take, drop, Some, None, Option, refl, ap, ◌∙◌, subst, ap₂, arith}
use Rattle.std.specs.List.{All, slice_get}
use Rattle.std.proofs.lemmas.List.{get_or-take, get_or_append_left}
use Rattle.rules.specs.declared.rows.PatternRow.{PatternRow}
use Rattle.rules.specs.declared.rows.PatternRow.TheVariants.{Any, Bind, Build, Either, Gauge}
use Rattle.rules.specs.declared.rows.PlaceRow.{PlaceRow}
use Rattle.rules.specs.declared.rows.PairRow.{PairRow}
use Rattle.rules.specs.declared.rows.NodeRow.{NodeRow}
use Rattle.rules.specs.declared.rows.NodeRow.TheVariants.{Leaf, Fail, Never, Switch, Test, Ask}
use Rattle.rules.specs.declared.rows.GarmentEntry.{GarmentEntry}
use Rattle.rules.specs.Tables.{unfolded, natural}
use Rattle.rules.specs.Book.{Schema, sort_of}
use Rattle.rules.specs.Garments.{Value, built, no_values, with_value, Place, whole, below, children, measured_by, entry_value}
use Rattle.rules.specs.Sheets.{Pattern, any, bind, build, either, gauge, with_pattern, patterns_at, pattern_from}
use Rattle.rules.specs.Trees.{Tree, leaf, fail, switch, test, ask, branch, otherwise, place_from, places_at, other_from, branches_from, node_from}
use Rattle.theory.specs.RowNames.{AllBelow, PatternBelow, OtherBelow, PairsBelow, NodeBelow, EntryBelow, NodeWithin, RowsNameEarlier}
use Rattle.theory.proofs.Unfolding.{unfolds}
use Rattle.std.proofs.lemmas.List.Elements.{All-head, All-tail}
use Rattle.rules.proofs.Lists.{take-drop-append}

-- ── a row sees no more than what it names ──

patterns_local : (k : ℕ) (xs : List Pattern) (ns : List ℕ) → AllBelow k ns → patterns_at (take k xs) ns ≡ patterns_at xs ns
patterns_local k xs [] b = refl
patterns_local k xs (n ∷ ns) b = ap₂ with_pattern (get_or-take k xs n (any 0) (All-head (λ i. i < k) n ns b)) (patterns_local k xs ns (All-tail (λ i. i < k) n ns b))

pattern_local : (k : ℕ) (row : PatternRow) → PatternBelow k row → (xs : List Pattern) → pattern_from (take k xs) row ≡ pattern_from xs row
pattern_local k (Any t) b xs = refl
pattern_local k (Bind v n) b xs = ap (bind v) (get_or-take k xs n (any 0) b)
pattern_local k (Build c ps) b xs = ap (build c) (patterns_local k xs ps b)
pattern_local k (Either l r) b xs = ap₂ either (get_or-take k xs l (any 0) b.0) (get_or-take k xs r (any 0) b.1)
pattern_local k (Gauge n a) b xs = ap (gauge a.test a.wanted) (get_or-take k xs n (any 0) b)

place_local : (k : ℕ) (row : PlaceRow) → row.parent < k → (xs : List Place) → place_from (take k xs) row ≡ place_from xs row
place_local k row b xs = ap (λ p. below p row.step) (get_or-take k xs row.parent whole b)

other_local : (k : ℕ) (o : Option ℕ) → OtherBelow k o → (xs : List Tree) → other_from (take k xs) o ≡ other_from xs o
other_local k None b xs = refl
other_local k (Some n) b xs = ap otherwise (get_or-take k xs n fail b)

branches_local : (k : ℕ) (rows : List PairRow) (o : Option ℕ) → PairsBelow k rows → OtherBelow k o → (xs : List Tree) → branches_from (take k xs) rows o ≡ branches_from xs rows o
branches_local k [] o b c xs = other_local k o c xs
branches_local k (r ∷ rows) o b c xs = ap₂ (branch r.constructor) (get_or-take k xs r.node fail (All-head (λ (q : PairRow). q.node < k) r rows b)) (branches_local k rows o (All-tail (λ (q : PairRow). q.node < k) r rows b) c xs)

node_local : (places : List Place) (pairs : List PairRow) (k : ℕ) (row : NodeRow) → NodeBelow pairs k row → (xs : List Tree) → node_from places pairs (take k xs) row ≡ node_from places pairs xs row
node_local places pairs k (Leaf a ps) b xs = refl
node_local places pairs k Fail b xs = refl
node_local places pairs k Never b xs = refl
node_local places pairs k (Switch p o first count) b xs = ap (switch (get_or places p whole)) (branches_local k (take count (drop first pairs)) o b.1 b.0 xs)
node_local places pairs k (Test p t y n) b xs = ap₂ (test (get_or places p whole) t) (get_or-take k xs y fail b.0) (get_or-take k xs n fail b.1)
node_local places pairs k (Ask g ps y n) b xs = ap₂ (ask g (places_at places ps)) (get_or-take k xs y fail b.0) (get_or-take k xs n fail b.1)

children_local : (k : ℕ) (xs : List Value) (ns : List ℕ) → AllBelow k ns → children (take k xs) ns ≡ children xs ns
children_local k xs [] b = refl
children_local k xs (n ∷ ns) b = ap₂ with_value (get_or-take k xs n (built 0 no_values) (All-head (λ i. i < k) n ns b)) (children_local k xs ns (All-tail (λ i. i < k) n ns b))

entry_local : (d : Schema) (k : ℕ) (e : GarmentEntry) → EntryBelow k e → (xs : List Value) → entry_value d (take k xs) e ≡ entry_value d xs e
entry_local d k e b xs =
    ap (λ vs. cond (eqb e.mark 0) (built (natural e.head) vs) (measured_by (sort_of d e.ty) e.head)) (children_local k xs (take e.count e.children) b)

-- ── made of the whole table ──

module _ {R A : Type 0} (make : List A → R → A) where
  made_of_all : (before : List A) (rows : List R) (i n : ℕ) (row : R) → slice_get rows i ≡ Some row → length before + i ≡ n
      → ((xs : List A) → make (take n xs) row ≡ make xs row) → slice_get (unfolded make before rows) n ≡ Some (make (unfolded make before rows) row)
  made_of_all before rows i n row h e l =
      subst (λ j. slice_get (unfolded make before rows) j ≡ Some (make (take j (unfolded make before rows)) row)) e ((unfolds make).made before rows i row h)
      ∙ ap Some (l (unfolded make before rows))

  -- two ways that make the same of each row
  pub same_made : (other : List A → R → A) (P : R → Type 0) → ((xs : List A) (row : R) → P row → make xs row ≡ other xs row)
      → (before : List A) (rows : List R) → All P rows → unfolded make before rows ≡ unfolded other before rows
  same_made other P h before [] a = refl
  same_made other P h before (r ∷ rows) a =
      ap (λ z. unfolded make (before ++ z ∷ []) rows) (h before r (All-head P r rows a)) ∙ same_made other P h (before ++ other before r ∷ []) rows (All-tail P r rows a)

-- ── later places and pairs ──

places_kept : (places more : List Place) (ns : List ℕ) → AllBelow (length places) ns → places_at (places ++ more) ns ≡ places_at places ns
places_kept places more [] b = refl
places_kept places more (n ∷ ns) b = ap₂ (λ p ps. p ∷ ps) (get_or_append_left places more whole n (All-head (λ i. i < length places) n ns b)) (places_kept places more ns (All-tail (λ i. i < length places) n ns b))

node_kept : (places more : List Place) (pairs others : List PairRow) (xs : List Tree) (row : NodeRow) → NodeWithin (length places) (length pairs) row
    → node_from (places ++ more) (pairs ++ others) xs row ≡ node_from places pairs xs row
node_kept places more pairs others xs (Leaf a ps) b = ap (leaf a) (places_kept places more ps b)
node_kept places more pairs others xs Fail b = refl
node_kept places more pairs others xs Never b = refl
node_kept places more pairs others xs (Switch p o first count) b =
    ap₂ (λ q rows. switch q (branches_from xs rows o)) (get_or_append_left places more whole p b.0) (take-drop-append pairs others first count b.1)
node_kept places more pairs others xs (Test p t y n) b = ap (λ q. test q t (get_or xs y fail) (get_or xs n fail)) (get_or_append_left places more whole p b)
node_kept places more pairs others xs (Ask g ps y n) b = ap (λ qs. ask g qs (get_or xs y fail) (get_or xs n fail)) (places_kept places more ps b)

from_nothing : (i : ℕ) → 0 + i ≡ i
from_nothing i = omega arith

pub rows_name_earlier : RowsNameEarlier
rows_name_earlier = record {
  patterns = λ rows i row h b. made_of_all pattern_from [] rows i i row h (from_nothing i) (pattern_local i row b);
  places = λ rows i row h b. made_of_all place_from (whole ∷ []) rows i (suc i) row h (let e : 1 + i ≡ suc i = omega arith in e) (place_local (suc i) row b);
  nodes = λ places pairs rows i row h b. made_of_all (node_from places pairs) [] rows i i row h (from_nothing i) (node_local places pairs i row b);
  entries = λ d rows i row h b. made_of_all (entry_value d) [] rows i i row h (from_nothing i) (entry_local d i row b);
  nodes_kept = λ places more pairs others rows a.
      same_made (node_from (places ++ more) (pairs ++ others)) (node_from places pairs) (NodeWithin (length places) (length pairs)) (node_kept places more pairs others) [] rows a;
}
