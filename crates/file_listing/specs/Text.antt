-- The text of a pattern file, byte by byte.
use Rattle.std.specs.Prelude.{ℕ, List, ◌++◌, Ok, Err, codes, decimal, Result}
use Rattle.std.specs.List.{flat_map}
use Rattle.pattern_file.specs.declared.faults.FormatFault.{FormatFault}
use Rattle.pattern_file.specs.declared.placed.Placed.{Placed}
use Rattle.pattern_file.specs.Calls.{text_of_parts}
use Rattle.pattern_file.specs.Contents.{CallAt, Contents, counted}
use Rattle.pattern_file.specs.Faults.{fault_number}
use Rattle.pattern_file.specs.Names.{text_of as name_text}

-- the line of a call: `ENTRY NAME OWN PUT PUT ..`, the put numbers in order
abbrev pub line_of : CallAt → List ℕ
line_of c = (decimal c.entry ++ (codes " " ++ text_of_parts (name_text c.name) c.own c.put)) ++ codes "\n"

-- the last line: `calls N`, or `refused NUMBER ENTRY` at a fault
abbrev pub end_of : Result ℕ (Placed FormatFault) → List ℕ
end_of (Ok n) = codes "calls " ++ (decimal n ++ codes "\n")
end_of (Err f) = codes "refused " ++ (decimal (fault_number f.item) ++ (codes " " ++ (decimal f.entry ++ codes "\n")))

-- the text of a file: a line for each call before its end or its fault, and then the last line
abbrev pub text_of : Contents → List ℕ
text_of c = flat_map line_of c.calls ++ end_of (counted c)
