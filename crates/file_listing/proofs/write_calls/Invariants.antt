-- The lines so far and those still to come are all the lines of the file.
use Rattle.std.proofs.Common.{◌≡◌, ◌++◌, length, string_bytes}
use Rattle.std.specs.List.{flat_map}
use Rattle.pattern_file.specs.Contents.{contents}
use Rattle.file_listing.specs.Text.{line_of}
use Rattle.file_listing.proofs.write_calls.Given as goal

abbrev pub invariant-loop-entry : goal.invariant-loop-entry
invariant-loop-entry l = string_bytes l.text ++ flat_map line_of l.reader.calls ≡ string_bytes l.initial.text ++ flat_map line_of (contents l.bytes).calls

abbrev pub decreases-loop-entry : goal.decreases-loop-entry
decreases-loop-entry l = length l.reader.calls
