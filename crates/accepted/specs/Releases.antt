-- What is released where sheet and tree are alike.
use Rattle.measure.specs.Measure.{Measure, Lawful}
use Rattle.rules.specs.Book.{Book}
use Rattle.rules.specs.Files.{file_of}
use Rattle.rules.specs.Law.{Alike, Faithful}
use Rattle.rules.specs.RoundTrip.{Reached}

-- in every workbook that calls can make: the file is read into a new workbook over the same kind, and the tree there gives
-- every well-typed garment under every rule the answer of the sheet
abbrev pub ReleasesFaithful : Type 0
ReleasesFaithful = (m : Measure) (b : Book) → Lawful m → Reached m b → Alike m b → Faithful m b (file_of b)
