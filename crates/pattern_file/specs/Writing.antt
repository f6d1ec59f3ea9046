-- What the writer does, and what a file that was written says.
use Rattle.std.specs.Prelude.{◌≡◌, ℕ, ◌≤◌, cond, List, ◌++◌, length, drop, Ok, Err, codes, Result, FitsSigned, nat_le}
use Rattle.std.specs.Int.{w64}
use Rattle.std.specs.List.{All}
use Rattle.pattern_file.specs.declared.entries.Entry.{Entry}
use Rattle.pattern_file.specs.declared.writing.WriteRefusal.{WriteRefusal}
use Rattle.pattern_file.specs.declared.writing.WriteRefusal.TheVariants.{TooManyEntries, OutTooShort}
use Rattle.pattern_file.specs.Contents.{max_entries, file_length, encode, contents, calls_of}

-- the length of the file of n entries, unless they are too many
abbrev pub size_for : ℕ → Result ℕ WriteRefusal
size_for n = cond (nat_le n max_entries) (Ok (file_length n)) (Err TooManyEntries)

-- what memory holds after writing, and the answer: the file and then the rest as it was, or all as it was
abbrev pub written : List Entry → List ℕ → List ℕ × Result ℕ WriteRefusal
written es out =
    cond (nat_le (length es) max_entries)
    (cond (nat_le (file_length (length es)) (length out)) (encode es ++ drop (file_length (length es)) out, Ok (file_length (length es))) (out, Err OutTooShort))
    (out, Err TooManyEntries)

-- what a refusal means, for people
abbrev pub refusal_message : WriteRefusal → List ℕ
refusal_message TooManyEntries = codes "too many entries"
refusal_message OutTooShort = codes "too little memory"

-- the numbers of the entries fit 64 bits
abbrev pub Fit : List Entry → Type 0
Fit es = All (λ (e : Entry). FitsSigned w64 e.number) es

-- a file that is written from entries says what the entries say
abbrev pub ReadsBack : Type 0
ReadsBack = (es : List Entry) → length es ≤ max_entries → Fit es → contents (encode es) ≡ calls_of es
