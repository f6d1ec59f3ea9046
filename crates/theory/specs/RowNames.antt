-- Rows that name only rows that are there: then a row's meaning is made of the meanings of the whole table, and later rows do not change it.
use Rattle.std.specs.Prelude.{◌≡◌, ℕ, suc, ◌+◌, ◌<◌, ◌≤◌, List, [], ◌∷◌, ◌++◌, length, take, drop, Some, None, Option}
use Rattle.std.specs.List.{All, slice_get}
use Rattle.rules.specs.declared.rows.PatternRow.{PatternRow}
use Rattle.rules.specs.declared.rows.PatternRow.TheVariants.{Any, Bind, Build, Either, Gauge}
use Rattle.rules.specs.declared.rows.PlaceRow.{PlaceRow}
use Rattle.rules.specs.declared.rows.PairRow.{PairRow}
use Rattle.rules.specs.declared.rows.NodeRow.{NodeRow}
use Rattle.rules.specs.declared.rows.NodeRow.TheVariants.{Leaf, Fail, Never, Switch, Test, Ask}
use Rattle.rules.specs.declared.rows.GarmentEntry.{GarmentEntry}
use Rattle.rules.specs.Tables.{unfolded}
use Rattle.rules.specs.Book.{Schema}
use Rattle.rules.specs.Garments.{Place, whole, entry_value, entry_values}
use Rattle.rules.specs.Sheets.{pattern_from, patterns_of}
use Rattle.rules.specs.Trees.{place_from, node_from}

abbrev pub AllBelow : ℕ → List ℕ → Type 0
AllBelow k ns = All (λ n. n < k) ns

-- ── which rows a row names: those below k of its own table ──

abbrev pub PatternBelow : ℕ → PatternRow → Type 0
PatternBelow k (Any t) = Unit {0}
PatternBelow k (Bind v n) = n < k
PatternBelow k (Build c ps) = AllBelow k ps
PatternBelow k (Either l r) = (l < k) × (r < k)
PatternBelow k (Gauge n a) = n < k

abbrev pub OtherBelow : ℕ → Option ℕ → Type 0
OtherBelow k None = Unit {0}
OtherBelow k (Some n) = n < k

abbrev pub PairsBelow : ℕ → List PairRow → Type 0
PairsBelow k rows = All (λ (r : PairRow). r.node < k) rows

abbrev pub NodeBelow : List PairRow → ℕ → NodeRow → Type 0
NodeBelow pairs k (Leaf a ps) = Unit {0}
NodeBelow pairs k Fail = Unit {0}
NodeBelow pairs k Never = Unit {0}
NodeBelow pairs k (Switch p o first count) = OtherBelow k o × PairsBelow k (take count (drop first pairs))
NodeBelow pairs k (Test p t y n) = (y < k) × (n < k)
NodeBelow pairs k (Ask g ps y n) = (y < k) × (n < k)

abbrev pub EntryBelow : ℕ → GarmentEntry → Type 0
EntryBelow k e = AllBelow k (take e.count e.children)

-- a node's places are among so many, and its pairs among so many
abbrev pub NodeWithin : ℕ → ℕ → NodeRow → Type 0
NodeWithin places pairs (Leaf a ps) = AllBelow places ps
NodeWithin places pairs Fail = Unit {0}
NodeWithin places pairs Never = Unit {0}
NodeWithin places pairs (Switch p o first count) = (p < places) × (first + count ≤ pairs)
NodeWithin places pairs (Test p t y n) = p < places
NodeWithin places pairs (Ask g ps y n) = AllBelow places ps

-- ── what is proved ──

pub record RowsNameEarlier : Type 0 where
  pub patterns : (rows : List PatternRow) (i : ℕ) (row : PatternRow) → slice_get rows i ≡ Some row → PatternBelow i row
      → slice_get (patterns_of rows) i ≡ Some (pattern_from (patterns_of rows) row)
  -- place 0 has no row
  pub places : (rows : List PlaceRow) (i : ℕ) (row : PlaceRow) → slice_get rows i ≡ Some row → row.parent < suc i
      → slice_get (unfolded place_from (whole ∷ []) rows) (suc i) ≡ Some (place_from (unfolded place_from (whole ∷ []) rows) row)
  pub nodes : (places : List Place) (pairs : List PairRow) (rows : List NodeRow) (i : ℕ) (row : NodeRow) → slice_get rows i ≡ Some row → NodeBelow pairs i row
      → slice_get (unfolded (node_from places pairs) [] rows) i ≡ Some (node_from places pairs (unfolded (node_from places pairs) [] rows) row)
  pub entries : (d : Schema) (rows : List GarmentEntry) (i : ℕ) (row : GarmentEntry) → slice_get rows i ≡ Some row → EntryBelow i row
      → slice_get (entry_values d rows) i ≡ Some (entry_value d (entry_values d rows) row)
  -- later places and pairs change no node
  pub nodes_kept : (places more : List Place) (pairs others : List PairRow) (rows : List NodeRow) → All (NodeWithin (length places) (length pairs)) rows
      → unfolded (node_from (places ++ more) (pairs ++ others)) [] rows ≡ unfolded (node_from places pairs) [] rows
