-- The law on runs: what any list of building calls, clears, judges, releases and withdrawals on an empty workbook answers, for any
-- kind of measure. Where memory is lent, an outcome is what stands in it up to the lengths returned (`differs_in`, `released_in`).
use Rattle.std.specs.Prelude.{◌≡◌, ℕ, ◌≤◌, true, List, [], ◌∷◌, length, Some, None, Ok, Option}
use Rattle.measure.specs.Measure.{Measure}
use Rattle.guards.specs.Questions.{Rule}
use Rattle.guards.specs.Listed.{listed_rule}
use Rattle.rules.specs.declared.refusal.Refusal.{Refusal}
use Rattle.rules.specs.declared.rows.GarmentEntry.{GarmentEntry}
use Rattle.rules.specs.Book.{Book, empty_book, schema_of}
use Rattle.rules.specs.Garments.{Value, garment_value, well_typed}
use Rattle.rules.specs.Sheets.{Answer, lost, clauses_of, sheet_answer}
use Rattle.rules.specs.Trees.{Tree, start_of, tree_answer, Same}
use Rattle.rules.specs.Calls.{Call, make, clear_sheet, clear_tree, judge, release, withdraw, Outcome, returned, refused, alike, differs, released, refusal_of, new_number, after, shown_entries, shown_numbers}
use Rattle.rules.specs.Files.{read_into, file_of}

-- ── the two sides of a workbook, on a garment ──

abbrev pub sheet_says : Measure → Book → List GarmentEntry → Rule → Answer
sheet_says m b es rule = sheet_answer m (clauses_of b) (garment_value (schema_of b) es) rule

-- a tree without a start is lost; judging and running refuse it
abbrev pub start_answer : Measure → Option Tree → Value → Rule → Answer
start_answer m None v rule = lost
start_answer m (Some t) v rule = tree_answer m t v rule

abbrev pub tree_says : Measure → Book → List GarmentEntry → Rule → Answer
tree_says m b es rule = start_answer m (start_of b) (garment_value (schema_of b) es) rule

-- sheet and tree give every well-typed garment the same answer under every answer rule
abbrev pub Alike : Measure → Book → Type 0
Alike m b = (es : List GarmentEntry) (rule : Rule) → well_typed m (schema_of b) es ≡ true → Same (sheet_says m b es rule) (tree_says m b es rule)

-- a well-typed garment and listed answers under which they differ, within the memory lent
pub record Shown (m : Measure) (b : Book) (es : List GarmentEntry) (ns : List ℕ) : Type 0 where
  pub typed : well_typed m (schema_of b) es ≡ true
  pub apart : Same (sheet_says m b es (listed_rule ns)) (tree_says m b es (listed_rule ns)) → ⊥
  pub entries : length es ≤ shown_entries
  pub numbers : length ns ≤ shown_numbers

-- a file is read without a fault into a new workbook over the same kind, and the tree there gives every
-- well-typed garment under every rule the answer of the sheet of the release
pub record Faithful (m : Measure) (b : Book) (bytes : List ℕ) : Type 0 where
  pub book : Book
  pub calls : ℕ
  pub read : read_into m empty_book bytes ≡ record { book = book; result = Ok calls }
  pub garments : schema_of book ≡ schema_of b
  pub answers : (es : List GarmentEntry) (rule : Rule) → well_typed m (schema_of b) es ≡ true → tree_says m book es rule ≡ sheet_says m b es rule

-- ── one call ──

-- a judge that is not refused says alike exactly when they are, or else shows where they differ
abbrev pub Judged : Measure → Book → Outcome → Type 0
Judged m b (returned n) = ⊥
Judged m b (refused r) = ⊥
Judged m b alike = Alike m b
Judged m b (differs es ns) = Shown m b es ns × (Alike m b → ⊥)
Judged m b (released bytes) = ⊥

abbrev pub Released : Measure → Book → Outcome → Type 0
Released m b (returned n) = ⊥
Released m b (refused r) = ⊥
Released m b alike = ⊥
Released m b (differs es ns) = ⊥
Released m b (released bytes) = (bytes ≡ file_of b) × Faithful m b bytes

-- what a call that is not refused answers
abbrev pub Answered : Measure → Book → Call → Outcome → Type 0
Answered m b (make o) outcome = outcome ≡ returned (new_number b o.name)
Answered m b clear_sheet outcome = outcome ≡ returned 0
Answered m b clear_tree outcome = outcome ≡ returned 0
Answered m b (judge w e n) outcome = Judged m b outcome
Answered m b (release n) outcome = Released m b outcome
Answered m b withdraw outcome = outcome ≡ returned 0

-- a call is refused exactly on its grounds, and else answers as it should
pub record Right (m : Measure) (b : Book) (c : Call) (o : Outcome) : Type 0 where
  pub grounded : (r : Refusal) → o ≡ refused r → refusal_of m b c ≡ Some r
  pub heeded : (r : Refusal) → refusal_of m b c ≡ Some r → o ≡ refused r
  pub answered : refusal_of m b c ≡ None → Answered m b c o

-- ── any list of calls ──

-- a call and its outcome
pub record Event : Type 0 where
  pub call : Call
  pub outcome : Outcome

-- each call of a run is right at the workbook that the calls before it made
abbrev pub RunRight : Measure → Book → List Event → Type 0
RunRight m b [] = Unit {0}
RunRight m b (e ∷ es) = Right m b e.call e.outcome × RunRight m (after b e.call e.outcome) es

-- the law: any run on an empty workbook
abbrev pub LawOnRuns : Measure → List Event → Type 0
LawOnRuns m es = RunRight m empty_book es
