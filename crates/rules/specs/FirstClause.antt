-- Which clause answers: the first whose pattern matches and whose guard, if it has one, says yes.
use Rattle.std.specs.Prelude.{◌≡◌, ℕ, true, List, ◌∷◌, ◌++◌, Some, None, Option}
use Rattle.std.specs.List.{All}
use Rattle.measure.specs.Measure.{Measure}
use Rattle.guards.specs.Questions.{Rule, Steps}
use Rattle.rules.specs.Garments.{Value, whole}
use Rattle.rules.specs.Sheets.{Binding, Clause, acts, none, list_of, matches, question, sheet_answer}

-- there is no guard, or it says yes to the places
abbrev pub GuardAgrees : Rule → Option ℕ → List Steps → Type 0
GuardAgrees rule None places = Unit {0}
GuardAgrees rule (Some g) places = rule (question g places) ≡ true

-- a clause accepts a value with these bindings
abbrev pub Accepts : Measure → Rule → Value → Clause → List Binding → Type 0
Accepts m rule v k bs = (matches m k.pattern whole v ≡ Some bs) × GuardAgrees rule k.guard (list_of bs)

-- a clause does not accept a value
abbrev pub PassedOver : Measure → Rule → Value → Clause → Type 0
PassedOver m rule v k = (bs : List Binding) → Accepts m rule v k bs → ⊥

pub record FirstClauseAnswers : Type 0 where
  -- the first clause that accepts answers its action and the places of its variables
  pub first : (m : Measure) (rule : Rule) (v : Value) (before : List Clause) (k : Clause) (after : List Clause) (bs : List Binding)
      → All (PassedOver m rule v) before → Accepts m rule v k bs → sheet_answer m (before ++ k ∷ after) v rule ≡ acts k.action (list_of bs)
  -- where none accepts, the answer is none
  pub no_clause : (m : Measure) (rule : Rule) (v : Value) (ks : List Clause) → All (PassedOver m rule v) ks → sheet_answer m ks v rule ≡ none
