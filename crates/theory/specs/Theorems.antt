-- What is proved of looks, knowledge and exploration, step by step.
use Rattle.std.specs.Prelude.{◌≡◌, ℕ, Bool, true, List, [], Some, None}
use Rattle.measure.specs.Measure.{Measure, Lawful}
use Rattle.guards.specs.Questions.{Rule}
use Rattle.rules.specs.Book.{Schema}
use Rattle.rules.specs.Garments.{Value, OfType}
use Rattle.rules.specs.Sheets.{Answer, Clause, sheet_answer}
use Rattle.rules.specs.Trees.{Tree, tree_answer, Same}
use Rattle.theory.specs.Runs.{Look, Run, execute, world_of, sheet_run, tree_run, SheetFits}
use Rattle.theory.specs.Inhabited.{inhabited}
use Rattle.theory.specs.Knowledge.{Knowledge, learn, Fits, tells, Askable, Good}
use Rattle.theory.specs.Explore.{alike, differs, explore, More, Proper}

-- ── 1. runs ──

-- executing the run of a sheet, or of a tree, in the world of a well-typed garment and a rule gives its answer
pub record RunsAnswer : Type 0 where
  pub sheets : (m : Measure) (d : Schema) (v : Value) (rule : Rule) (ks : List Clause) → OfType m d 0 v → SheetFits d ks
      → execute (sheet_run ks) (world_of m v rule) ≡ sheet_answer m ks v rule
  pub trees : (m : Measure) (t : Tree) (v : Value) (rule : Rule) → execute (tree_run t) (world_of m v rule) ≡ tree_answer m t v rule

-- ── 2. knowledge ──

-- the inhabited types are just those that have values
pub record InhabitedExactly : Type 0 where
  pub found : (m : Measure) (d : Schema) (t : ℕ) (v : Value) → Lawful m → OfType m d t v → inhabited m d t ≡ true
  pub filled : (m : Measure) (d : Schema) (t : ℕ) → Lawful m → inhabited m d t ≡ true → (v : Value) × OfType m d t v

-- what knowledge tells is right in every garment and rule that fit it
abbrev pub TellsRight : Type 0
TellsRight = (m : Measure) (d : Schema) (k : Knowledge) (v : Value) (rule : Rule) (l : Look) (b : Bool)
    → Lawful m → Fits m d k v rule → tells m d k l ≡ Some b → world_of m v rule l ≡ b

-- knowledge that leaves every place of an inhabited type a candidate or an atom has a garment and a rule that fit
abbrev pub GoodFits : Type 0
GoodFits = (m : Measure) (d : Schema) (k : Knowledge) → Lawful m → inhabited m d 0 ≡ true → Good m d k → (v : Value) × ((rule : Rule) × Fits m d k v rule)

-- an open look, learnt either way, splits just those that fit, and leaves both parts good (so with a garment, where type 0 has one); knowledge only grows
pub record LearningSplits : Type 0 where
  pub apart : (m : Measure) (d : Schema) (k : Knowledge) (v : Value) (rule : Rule) (l : Look) (b : Bool)
      → Fits m d (learn k l b) v rule → Fits m d k v rule × (world_of m v rule l ≡ b)
  pub together : (m : Measure) (d : Schema) (k : Knowledge) (v : Value) (rule : Rule) (l : Look) (b : Bool)
      → Fits m d k v rule → world_of m v rule l ≡ b → Fits m d (learn k l b) v rule
  pub good : (m : Measure) (d : Schema) (k : Knowledge) (l : Look) (b : Bool)
      → Lawful m → Good m d k → Askable m d k l → tells m d k l ≡ None → Good m d (learn k l b)
  pub told : (m : Measure) (d : Schema) (k : Knowledge) (l : Look) (b : Bool)
      → Lawful m → Good m d k → Askable m d k l → tells m d k l ≡ None → tells m d (learn k l b) l ≡ Some b
  pub grows : (m : Measure) (d : Schema) (k : Knowledge) (l : Look) (b : Bool)
      → Lawful m → Good m d k → Askable m d k l → tells m d k l ≡ None → More m d k (learn k l b)

-- at first every well-typed garment fits, under every rule
pub record StartFitsAll : Type 0 where
  pub all : (m : Measure) (d : Schema) (v : Value) (rule : Rule) → OfType m d 0 v → Fits m d [] v rule
  pub good : (m : Measure) (d : Schema) → Lawful m → Good m d []

-- ── 3. exploration ──

-- alike only where every well-typed garment and rule get the same answer; differing only where some that fit the last knowledge get others
pub record Exact (m : Measure) (d : Schema) (first second : Run) : Type 0 where
  pub alike_right : explore m d [] first second ≡ alike → (v : Value) (rule : Rule) → OfType m d 0 v
      → Same (execute first (world_of m v rule)) (execute second (world_of m v rule))
  pub differs_right : (k : Knowledge) (a b : Answer) → explore m d [] first second ≡ differs k a b → inhabited m d 0 ≡ true → Proper m d [] first → Proper m d [] second
      → ((v : Value) × ((rule : Rule) × Fits m d k v rule))
      × (((v : Value) (rule : Rule) → Fits m d k v rule → (execute first (world_of m v rule) ≡ a) × (execute second (world_of m v rule) ≡ b))
      × (Same a b → ⊥))

abbrev pub ExploringExact : Type 0
ExploringExact = (m : Measure) (d : Schema) (first second : Run) → Lawful m → Exact m d first second
