-- The sheet and the tree of a workbook that calls can make fit their types and keep the limits of the judge.
use Rattle.std.specs.Prelude.{◌≡◌, drop, Some}
use Rattle.measure.specs.Measure.{Measure, Lawful}
use Rattle.rules.specs.Book.{Book}
use Rattle.rules.specs.Trees.{Tree, places_of, start_of}
use Rattle.rules.specs.RoundTrip.{Reached}
use Rattle.shown.specs.LawfulVerdicts.{Judgeable, LawfulVerdict}

-- the table of places besides the whole garment
abbrev pub ReachedJudgeable : Type 0
ReachedJudgeable = (m : Measure) (b : Book) (t : Tree) → Reached m b → start_of b ≡ Some t → Judgeable b t (drop 1 (places_of b))

abbrev pub ReachedLawful : Type 0
ReachedLawful = (m : Measure) (b : Book) (t : Tree) → Lawful m → Reached m b → start_of b ≡ Some t → LawfulVerdict m b t (drop 1 (places_of b))
