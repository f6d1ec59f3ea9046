-- Running a sheet or a tree on a garment: when it is refused, and what is written of the answer.
use Rattle.std.specs.Prelude.{ℕ, not, List, [], ◌∷◌, length, Some, None, Ok, Err, Option, Result, ◌==◌, nat_lt}
use Rattle.measure.specs.Measure.{Measure}
use Rattle.guards.specs.Questions.{Rule, written_places}
use Rattle.rules.specs.declared.refusal.Refusal.{Refusal}
use Rattle.rules.specs.declared.refusal.Refusal.TheVariants.{ShortMemory, BadGarment, NoClause, NoNode}
use Rattle.rules.specs.declared.rows.GarmentEntry.{GarmentEntry}
use Rattle.rules.specs.Book.{Book, schema_of}
use Rattle.rules.specs.Garments.{well_typed}
use Rattle.rules.specs.Sheets.{Answer, acts, none, lost}
use Rattle.rules.specs.Grounds.{Ground, on, first_ground}
use Rattle.rules.specs.Calls.{over}
use Rattle.rules.specs.Law.{sheet_says, tree_says}

-- the memory that a run asks for, in 16-bit numbers
abbrev pub answer_numbers : ℕ
answer_numbers = 133

-- a run's grounds, with that of the side that is missing; a pass that is out does not matter
abbrev pub run_grounds : Measure → Book → List GarmentEntry → ℕ → Ground → List Ground
run_grounds m b es numbers missing = on ShortMemory (nat_lt numbers answer_numbers) ∷ on BadGarment (not (well_typed m (schema_of b) es)) ∷ missing ∷ []

abbrev pub sheet_run_grounds : Measure → Book → List GarmentEntry → ℕ → List Ground
sheet_run_grounds m b es numbers = run_grounds m b es numbers (on NoClause (length b.clauses == 0))

abbrev pub tree_run_grounds : Measure → Book → List GarmentEntry → ℕ → List Ground
tree_run_grounds m b es numbers = run_grounds m b es numbers (on NoNode (length b.nodes == 0))

-- an action's list is written as in a question without the guard; none and lost write nothing
abbrev pub written_answer : Answer → List ℕ
written_answer (acts a ps) = length ps ∷ written_places ps
written_answer none = []
written_answer lost = []

-- what a run returns: a refusal, or the answer
abbrev pub ran : Option Refusal → Answer → Result Answer Refusal
ran (Some r) a = Err r
ran None a = Ok a

abbrev pub sheet_run_result : Measure → Book → List GarmentEntry → Rule → ℕ → Result Answer Refusal
sheet_run_result m b es rule numbers = ran (first_ground (sheet_run_grounds m b es numbers)) (sheet_says m b es rule)

abbrev pub tree_run_result : Measure → Book → List GarmentEntry → Rule → ℕ → Result Answer Refusal
tree_run_result m b es rule numbers = ran (first_ground (tree_run_grounds m b es numbers)) (tree_says m b es rule)

-- what the lent numbers hold then; a refused run writes nothing
abbrev pub run_after : Result Answer Refusal → List ℕ → List ℕ
run_after (Ok a) memory = over (written_answer a) memory
run_after (Err r) memory = memory

-- a host for differences is refused a garment that is not well typed
abbrev pub difference_grounds : Measure → Book → List GarmentEntry → List Ground
difference_grounds m b es = on BadGarment (not (well_typed m (schema_of b) es)) ∷ []
