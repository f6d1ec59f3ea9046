-- The verdict on a workbook's sheet and tree is what the law on runs asks of a judge.
use Rattle.std.specs.Prelude.{◌≡◌, ℕ, List, ℤ, Some}
use Rattle.measure.specs.Measure.{Measure, Lawful}
use Rattle.rules.specs.Book.{Book, schema_of}
use Rattle.rules.specs.Garments.{Place}
use Rattle.rules.specs.Sheets.{Answer, clauses_of}
use Rattle.rules.specs.Trees.{Tree, start_of}
use Rattle.rules.specs.Law.{Alike, Shown}
use Rattle.theory.specs.Runs.{SheetFits}
use Rattle.theory.specs.Knowledge.{Knowledge}
use Rattle.theory.specs.Explore.{alike, differs}
use Rattle.theory.specs.ProperRuns.{TreeFits}
use Rattle.shown.specs.ShownAnswers.{shown_answers}
use Rattle.shown.specs.ShownGarment.{Picks, shown_garment}
use Rattle.shown.specs.ShownFits.{WithinLimits, places_listed}
use Rattle.shown.specs.Judgement.{judged}

-- a workbook whose sheet and tree fit their types and keep the limits
pub record Judgeable (b : Book) (t : Tree) (table : List Place) : Type 0 where
  pub start : start_of b ≡ Some t
  pub sheet : SheetFits (schema_of b) (clauses_of b)
  pub tree : TreeFits (schema_of b) t
  pub limits : WithinLimits (schema_of b) (clauses_of b) t table

-- alike exactly where the law says alike; differing, what is shown is what the law asks to be shown
pub record LawfulVerdict (m : Measure) (b : Book) (t : Tree) (table : List Place) : Type 0 where
  pub alike_right : judged m (schema_of b) (clauses_of b) t ≡ alike → Alike m b
  pub alike_found : Alike m b → judged m (schema_of b) (clauses_of b) t ≡ alike
  pub differs_shown : (k : Knowledge) (a c : Answer) (pick : Place → ℕ → ℤ) (usual : ℕ → ℤ) → judged m (schema_of b) (clauses_of b) t ≡ differs k a c
      → Picks m (schema_of b) k (places_listed (clauses_of b) table) pick usual
      → Shown m b (shown_garment m (schema_of b) k pick usual (places_listed (clauses_of b) table)) (shown_answers k)

abbrev pub VerdictsLawful : Type 0
VerdictsLawful = (m : Measure) (b : Book) (t : Tree) (table : List Place) → Lawful m → Judgeable b t table → LawfulVerdict m b t table
