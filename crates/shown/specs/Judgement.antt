-- The judge's verdict on a sheet and a tree, by the answers that rules define for values.
use Rattle.std.specs.Prelude.{◌≡◌, ℕ, ◌≤◌, true, List, length, ℤ}
use Rattle.measure.specs.Measure.{Measure, Lawful}
use Rattle.guards.specs.Questions.{Rule}
use Rattle.guards.specs.Listed.{listed_rule}
use Rattle.rules.specs.declared.rows.GarmentEntry.{GarmentEntry}
use Rattle.rules.specs.Book.{Schema}
use Rattle.rules.specs.Garments.{Value, OfType, Place, garment_value, well_typed}
use Rattle.rules.specs.Sheets.{Answer, Clause, sheet_answer}
use Rattle.rules.specs.Trees.{Tree, tree_answer, Same}
use Rattle.rules.specs.Calls.{shown_entries, shown_numbers}
use Rattle.theory.specs.Runs.{sheet_run, tree_run, SheetFits}
use Rattle.theory.specs.Knowledge.{Knowledge, Fits}
use Rattle.theory.specs.Explore.{Verdict, alike, differs}
use Rattle.theory.specs.ProperRuns.{TreeFits}
use Rattle.theory.specs.Verdicts.{verdict}
use Rattle.shown.specs.ShownAnswers.{shown_answers}
use Rattle.shown.specs.ShownGarment.{Picks, shown_garment}
use Rattle.shown.specs.ShownFits.{WithinLimits, places_listed}

-- the sheet is followed as far as the tree has come: the tree's run is explored first
abbrev pub judged : Measure → Schema → List Clause → Tree → Verdict
judged m d ks t = verdict m d (tree_run t) (sheet_run ks)

-- every well-typed garment gets the same answer from sheet and tree under every rule
abbrev pub AnswerAlike : Measure → Schema → List Clause → Tree → Type 0
AnswerAlike m d ks t = (v : Value) (rule : Rule) → OfType m d 0 v → Same (sheet_answer m ks v rule) (tree_answer m t v rule)

-- alike exactly where they answer alike; differing, all that fit the last knowledge get the two answers named, some do, and they are not the same
pub record Judgement (m : Measure) (d : Schema) (ks : List Clause) (t : Tree) : Type 0 where
  pub alike_right : judged m d ks t ≡ alike → AnswerAlike m d ks t
  pub alike_found : AnswerAlike m d ks t → judged m d ks t ≡ alike
  pub differs_shown : (k : Knowledge) (a b : Answer) → judged m d ks t ≡ differs k a b
      → ((v : Value) × ((rule : Rule) × Fits m d k v rule))
      × (((v : Value) (rule : Rule) → Fits m d k v rule → (tree_answer m t v rule ≡ a) × (sheet_answer m ks v rule ≡ b))
      × (Same b a → ⊥))

-- for every kind, and every sheet and tree that fit their types
abbrev pub JudgingExact : Type 0
JudgingExact = (m : Measure) (d : Schema) (ks : List Clause) (t : Tree) → Lawful m → SheetFits d ks → TreeFits d t → Judgement m d ks t

-- a well-typed garment and listed answers, within the memory lent, on which sheet and tree give answers that are not the same
pub record ShownApart (m : Measure) (d : Schema) (ks : List Clause) (t : Tree) (es : List GarmentEntry) (ns : List ℕ) : Type 0 where
  pub typed : well_typed m d es ≡ true
  pub apart : Same (sheet_answer m ks (garment_value d es) (listed_rule ns)) (tree_answer m t (garment_value d es) (listed_rule ns)) → ⊥
  pub entries : length es ≤ shown_entries
  pub numbers : length ns ≤ shown_numbers

-- where the verdict is that they differ, the garment and the answers that the last knowledge gives show it; the atoms picked are free
abbrev pub JudgingShows : Type 0
JudgingShows =
    (m : Measure) (d : Schema) (ks : List Clause) (t : Tree) (table : List Place) (k : Knowledge) (a b : Answer) (pick : Place → ℕ → ℤ) (usual : ℕ → ℤ)
    → Lawful m → SheetFits d ks → TreeFits d t → WithinLimits d ks t table → judged m d ks t ≡ differs k a b → Picks m d k (places_listed ks table) pick usual
    → ShownApart m d ks t (shown_garment m d k pick usual (places_listed ks table)) (shown_answers k)
