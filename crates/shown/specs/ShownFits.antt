-- What is shown where a sheet and a tree differ: entries and numbers that fit the memory lent, by the limits that a workbook keeps.
use Rattle.std.specs.Prelude.{◌≡◌, ℕ, ◌≤◌, true, List, [], ◌∷◌, ◌++◌, length, ℤ}
use Rattle.std.specs.List.{All}
use Rattle.measure.specs.Measure.{Measure}
use Rattle.guards.specs.Listed.{listed_rule}
use Rattle.rules.specs.declared.rows.GarmentEntry.{GarmentEntry}
use Rattle.rules.specs.Book.{Schema, most_types}
use Rattle.rules.specs.Garments.{Place, whole, garment_value, well_typed}
use Rattle.rules.specs.Sheets.{Clause, Answer, levels}
use Rattle.rules.specs.Trees.{Tree}
use Rattle.rules.specs.Calls.{shown_entries, shown_numbers}
use Rattle.theory.specs.Runs.{sheet_run, tree_run}
use Rattle.theory.specs.Inhabited.{inhabited}
use Rattle.theory.specs.Knowledge.{Knowledge, Fits, Good}
use Rattle.theory.specs.Explore.{differs, explore}
use Rattle.shown.specs.Interned.{also_listed, each_below}
use Rattle.shown.specs.Budgets.{places_of_sheet, tree_among, Limited}
use Rattle.shown.specs.ShownAnswers.{shown_answers, TreeShort}
use Rattle.shown.specs.ShownGarment.{FourFields, Picks, shown_garment}

-- a sheet and a tree over a table of places, all within the limits
pub record WithinLimits (d : Schema) (ks : List Clause) (t : Tree) (table : List Place) : Type 0 where
  pub few_types : length d.types ≤ most_types
  pub four_fields : FourFields d
  pub limited : Limited ks t
  pub flat : All (λ k. levels k.pattern ≤ 16) ks
  pub short : TreeShort t
  pub few_places : length table ≤ 63
  pub nested : each_below (whole ∷ []) table ≡ true
  pub named : tree_among (whole ∷ table) t ≡ true

-- the places listed, besides the whole garment
abbrev pub places_listed : List Clause → List Place → List Place
places_listed ks table = also_listed [] (places_of_sheet ks ++ table)

-- a well-typed garment and listed answers that fit what is known, and the memory
pub record ShownInMemory (m : Measure) (d : Schema) (k : Knowledge) (es : List GarmentEntry) (ns : List ℕ) : Type 0 where
  pub typed : well_typed m d es ≡ true
  pub fits : Fits m d k (garment_value d es) (listed_rule ns)
  pub entries : length es ≤ shown_entries
  pub numbers : length ns ≤ shown_numbers

pub record ShownFitsMemory : Type 0 where
  pub shown : (m : Measure) (d : Schema) (ks : List Clause) (t : Tree) (table : List Place) (k : Knowledge) (a b : Answer) (pick : Place → ℕ → ℤ) (usual : ℕ → ℤ)
      → WithinLimits d ks t table → inhabited m d 0 ≡ true → explore m d [] (tree_run t) (sheet_run ks) ≡ differs k a b → Good m d k → Picks m d k (places_listed ks table) pick usual
      → ShownInMemory m d k (shown_garment m d k pick usual (places_listed ks table)) (shown_answers k)
  -- there always are atoms to pick
  pub picks : (m : Measure) (d : Schema) (k : Knowledge) (ps : List Place) → Good m d k → (pick : Place → ℕ → ℤ) × ((usual : ℕ → ℤ) × Picks m d k ps pick usual)
