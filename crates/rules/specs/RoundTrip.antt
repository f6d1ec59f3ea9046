-- Reading what a release writes into an empty workbook gives back the types, the constructors and the tree.
use Rattle.std.specs.Prelude.{◌≡◌, ℕ, ◌+◌, ◌<◌, ◌≤◌, false, length, Some, Ok, FitsSigned}
use Rattle.std.specs.Int.{w64}
use Rattle.std.specs.List.{All}
use Rattle.measure.specs.Measure.{Measure, Lawful}
use Rattle.pattern_file.specs.declared.entries.Entry.{Entry}
use Rattle.pattern_file.specs.Contents.{max_entries}
use Rattle.rules.specs.declared.refusal.Refusal.{Refusal}
use Rattle.rules.specs.Book.{Book, empty_book}
use Rattle.rules.specs.Calls.{Call, Outcome, refused, refusal_of, after, without_sheet, with_pass}
use Rattle.rules.specs.Files.{Read, release_entries, file_of, read_entries, read_into}

-- the workbooks that calls make of an empty one: a call that has a ground is refused on it; nothing is asked of other outcomes
pub data Reached (m : Measure) : Book → Type 0 where
  start : Reached m empty_book
  next : (b : Book) (c : Call) (o : Outcome) → Reached m b → ((r : Refusal) → refusal_of m b c ≡ Some r → o ≡ refused r) → Reached m (after b c o)

-- how many rows a release writes, each by a call
abbrev pub rows_written : Book → ℕ
rows_written b = length b.types + (length b.constructors + (length b.places + length b.nodes))

-- no call is refused; types, constructors, places, nodes and pairs come back; there is no sheet, and no pass is out
abbrev pub read_back : Book → Read
read_back b = record { book = with_pass (without_sheet b) false; result = Ok (rows_written b) }

-- and what is written is no more than a file may have
abbrev pub FilesReadBack : Type 0
FilesReadBack =
    (m : Measure) (b : Book) → Reached m b
    → (read_entries m empty_book (release_entries b) ≡ read_back b) × (length (release_entries b) ≤ max_entries)

-- over a lawful kind, each entry has a tag of the file and a signed 64-bit number: bytes can say all that a release writes
abbrev pub EntriesFit : Type 0
EntriesFit =
    (m : Measure) (b : Book) → Lawful m → Reached m b → All (λ (e : Entry). (e.tag < 16) × FitsSigned w64 e.number) (release_entries b)

-- so the bytes of a release are read without a fault into an empty workbook over the same kind, and give back the same
abbrev pub ReleasesReadBack : Type 0
ReleasesReadBack = (m : Measure) (b : Book) → Lawful m → Reached m b → read_into m empty_book (file_of b) ≡ read_back b
