-- The tags and the numbers so far stand in front, and the numbers fit; the rest is as it was.
use Rattle.std.proofs.Common.{◌≡◌, ◌*◌, ◌++◌, map, take, drop}
use Rattle.std.specs.List.{flat_map}
use Rattle.pattern_file.specs.Contents.{tag_of_entry, number_of_entry}
use Rattle.pattern_file.specs.Writing.{Fit}
use Rattle.pattern_file.proofs.writing.put_entries.Given as goal

abbrev pub invariant-loop-i : goal.invariant-loop-i
invariant-loop-i l = record {
  tags : l.tags ≡ map tag_of_entry (take l.i l.entries) ++ drop l.i l.initial.tags;
  numbers : l.numbers ≡ flat_map number_of_entry (take l.i l.entries) ++ drop (8 * l.i) l.initial.numbers;
  fit : Fit (take l.i l.entries);
}
