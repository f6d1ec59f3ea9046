-- The judge's verdict on two runs, what is right of it, and the facts on knowledge that this rests on.
use Rattle.std.specs.Prelude.{◌≡◌, Bool, true, cond, [], Some, None}
use Rattle.measure.specs.Measure.{Measure, Lawful}
use Rattle.guards.specs.Questions.{Rule}
use Rattle.rules.specs.Book.{Schema}
use Rattle.rules.specs.Garments.{Value, OfType}
use Rattle.rules.specs.Sheets.{Answer}
use Rattle.rules.specs.Trees.{Same}
use Rattle.theory.specs.Runs.{Look, Run, execute, world_of}
use Rattle.theory.specs.Inhabited.{inhabited}
use Rattle.theory.specs.Knowledge.{Knowledge, learn, Fits, tells, Askable, Good}
use Rattle.theory.specs.Explore.{Verdict, alike, differs, explore, More, Proper}

-- without garments everything is alike; else the two runs are explored from nothing known
abbrev pub verdict : Measure → Schema → Run → Run → Verdict
verdict m d first second = cond (inhabited m d 0) (explore m d [] first second) alike

-- every well-typed garment and rule get the same answers
abbrev pub SameAnswers : Measure → Schema → Run → Run → Type 0
SameAnswers m d first second =
    (v : Value) (rule : Rule) → OfType m d 0 v → Same (execute first (world_of m v rule)) (execute second (world_of m v rule))

-- the knowledge leaves every place a candidate or an atom; some well-typed garment and rule fit it, and all that do get these
-- two answers, which are not the same
pub record Apart (m : Measure) (d : Schema) (first second : Run) (k : Knowledge) (a b : Answer) : Type 0 where
  pub good : Good m d k
  pub witness : (v : Value) × ((rule : Rule) × Fits m d k v rule)
  pub answers : (v : Value) (rule : Rule) → Fits m d k v rule → (execute first (world_of m v rule) ≡ a) × (execute second (world_of m v rule) ≡ b)
  pub other : Same a b → ⊥

pub record VerdictRight (m : Measure) (d : Schema) (first second : Run) : Type 0 where
  pub alike_right : verdict m d first second ≡ alike → SameAnswers m d first second
  pub alike_found : SameAnswers m d first second → Proper m d [] first → Proper m d [] second → verdict m d first second ≡ alike
  pub differs_right : (k : Knowledge) (a b : Answer) → verdict m d first second ≡ differs k a b → Proper m d [] first → Proper m d [] second
      → Apart m d first second k a b

abbrev pub VerdictExact : Type 0
VerdictExact = (m : Measure) (d : Schema) (first second : Run) → Lawful m → VerdictRight m d first second

-- what exploring needs of knowledge, at one measure and one schema
pub record Knowing (m : Measure) (d : Schema) : Type 0 where
  pub right : (k : Knowledge) (v : Value) (rule : Rule) (l : Look) (b : Bool) → Fits m d k v rule → tells m d k l ≡ Some b → world_of m v rule l ≡ b
  pub fitting : (k : Knowledge) → inhabited m d 0 ≡ true → Good m d k → (v : Value) × ((rule : Rule) × Fits m d k v rule)
  pub apart : (k : Knowledge) (v : Value) (rule : Rule) (l : Look) (b : Bool) → Fits m d (learn k l b) v rule → Fits m d k v rule × (world_of m v rule l ≡ b)
  pub together : (k : Knowledge) (v : Value) (rule : Rule) (l : Look) (b : Bool) → Fits m d k v rule → world_of m v rule l ≡ b → Fits m d (learn k l b) v rule
  pub good : (k : Knowledge) (l : Look) (b : Bool) → Good m d k → Askable m d k l → tells m d k l ≡ None → Good m d (learn k l b)
  pub told : (k : Knowledge) (l : Look) (b : Bool) → Good m d k → Askable m d k l → tells m d k l ≡ None → tells m d (learn k l b) l ≡ Some b
  pub grows : (k : Knowledge) (l : Look) (b : Bool) → Good m d k → Askable m d k l → tells m d k l ≡ None → More m d k (learn k l b)
  pub start_fits : (v : Value) (rule : Rule) → OfType m d 0 v → Fits m d [] v rule
  pub start_good : Good m d []
