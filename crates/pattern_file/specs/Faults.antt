-- Faults of the format: their numbers, their messages and their entries.
use Rattle.std.specs.Prelude.{ℕ, List, Ok, Err, codes, Result}
use Rattle.pattern_file.specs.declared.faults.FormatFault.{FormatFault}
use Rattle.pattern_file.specs.declared.faults.FormatFault.TheVariants.{Length, UnknownTag, NumbersLeft}
use Rattle.pattern_file.specs.declared.placed.Placed.{Placed}

-- the number by which a fault is reported
abbrev pub fault_number : FormatFault → ℕ
fault_number Length = 10
fault_number UnknownTag = 10
fault_number NumbersLeft = 10

-- what a fault means, for people
abbrev pub message_of : FormatFault → List ℕ
message_of Length = codes "no pattern file: it has 4 + 9n bytes, where n, at most 5000, stands in the first four"
message_of UnknownTag = codes "a tag above 15 is no call"
message_of NumbersLeft = codes "numbers are left over after the last call"

-- a fault of a file, found at entry n
abbrev pub fault_at : {E : Type 0} → ℕ → E → Placed E
fault_at n f = record { entry = n; item = f }

-- a result, with the entry of its fault
abbrev pub placed : {T E : Type 0} → Result T E → ℕ → Result T (Placed E)
placed (Ok x) n = Ok x
placed (Err f) n = Err (fault_at n f)
