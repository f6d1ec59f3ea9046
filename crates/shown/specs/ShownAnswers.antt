-- The answers that are shown: the questions heard, with their answers, as numbers.
use Rattle.std.specs.Prelude.{◌≡◌, ℕ, ◌*◌, ◌≤◌, Bool, false, List, [], ◌∷◌, length}
use Rattle.std.specs.Option.{unwrap_or}
use Rattle.std.specs.List.{All}
use Rattle.measure.specs.Measure.{Measure}
use Rattle.guards.specs.Questions.{Question, Rule, Within}
use Rattle.guards.specs.Hosts.{Asked}
use Rattle.guards.specs.Listed.{listed_rule, written_answers}
use Rattle.rules.specs.Book.{Schema}
use Rattle.rules.specs.Garments.{Value, Place, steps_of}
use Rattle.rules.specs.Sheets.{Clause, Answer, levels}
use Rattle.rules.specs.Trees.{Tree, Branches, leaf, fail, never, switch, test, ask, branch, otherwise, no_other}
use Rattle.rules.specs.Calls.{shown_numbers}
use Rattle.theory.specs.Runs.{Look, is_built, passes, says, Run, sheet_run, tree_run}
use Rattle.theory.specs.Knowledge.{Knowledge, Fits, heard, Good}
use Rattle.theory.specs.Explore.{differs, explore}
use Rattle.shown.specs.Budgets.{EveryLook, learnt, questions}

-- a question and its answer, if the look is one
abbrev pub as_heard : Look → Bool → List Asked → List Asked
as_heard (is_built p c) b rest = rest
as_heard (passes p t) b rest = rest
as_heard (says q) b rest = (q, b) ∷ rest

-- the questions of some knowledge with their answers, the newest first
abbrev pub heard_list : Knowledge → List Asked
heard_list [] = []
heard_list (f ∷ k) = as_heard f.asked f.answer (heard_list k)

-- every question is of at most four places of at most 16 steps
abbrev pub AllWithin : Knowledge → Type 0
AllWithin k = All (λ a. Within 16 a.0) (heard_list k)

-- the numbers that show the answers
abbrev pub shown_answers : Knowledge → List ℕ
shown_answers k = written_answers (heard_list k)

-- a look that is no question, or one within the limits
abbrev pub LookWithin : Look → Type 0
LookWithin (is_built p c) = Unit {0}
LookWithin (passes p t) = Unit {0}
LookWithin (says q) = Within 16 q

-- every question of a run is within the limits
abbrev pub AsksWithin : Run → Type 0
AsksWithin r = EveryLook LookWithin r

-- places of at most 16 steps
abbrev pub Short : List Place → Type 0
Short ps = All (λ p. length (steps_of p) ≤ 16) ps

abbrev mutual
  -- every question of a tree is of at most four places of at most 16 steps
  pub TreeShort : Tree → Type 0
  TreeShort (leaf a ps) = Unit {0}
  TreeShort fail = Unit {0}
  TreeShort never = Unit {0}
  TreeShort (switch p bs) = BranchesShort bs
  TreeShort (test p t y n) = TreeShort y × TreeShort n
  TreeShort (ask g ps y n) = ((length ps ≤ 4) × Short ps) × (TreeShort y × TreeShort n)

  pub BranchesShort : Branches → Type 0
  BranchesShort (branch c n bs) = TreeShort n × BranchesShort bs
  BranchesShort (otherwise n) = TreeShort n
  BranchesShort no_other = Unit {0}

pub record AnswersShown : Type 0 where
  -- they mean the rule that answers as heard, and no to all else
  pub means : (k : Knowledge) (q : Question) → AllWithin k → listed_rule (shown_answers k) q ≡ unwrap_or (heard k q) false
  -- a garment that fits under some rule fits under the listed one
  pub fits : (m : Measure) (d : Schema) (k : Knowledge) (v : Value) (rule : Rule) → Good m d k → AllWithin k → Fits m d k v rule → Fits m d k v (listed_rule (shown_answers k))
  -- they are few
  pub as_many : (k : Knowledge) → length (heard_list k) ≡ learnt questions k
  pub few : (k : Knowledge) → AllWithin k → length (shown_answers k) ≤ 135 * learnt questions k
  pub enough : (k : Knowledge) → AllWithin k → learnt questions k ≤ 64 → length (shown_answers k) ≤ shown_numbers
  -- and are within the limits where the sheet and the tree are
  pub sheet_asks : (ks : List Clause) → All (λ k. levels k.pattern ≤ 16) ks → AsksWithin (sheet_run ks)
  pub tree_asks : (t : Tree) → TreeShort t → AsksWithin (tree_run t)
  pub learnt_within : (m : Measure) (d : Schema) (k j : Knowledge) (first second : Run) (a b : Answer) → AsksWithin first → AsksWithin second → AllWithin k → explore m d k first second ≡ differs j a b → AllWithin j
