-- The calls counted so far and those still to come are all the calls of the file.
use Rattle.std.proofs.Common.{◌≡◌, ◌+◌, ◌≤◌, length}
use Rattle.pattern_file.specs.Contents.{contents}
use Rattle.pattern_file.proofs.reading.count_calls.Given as goal

abbrev pub invariant-loop-calls : goal.invariant-loop-calls
invariant-loop-calls l =
    (l.calls + length l.reader.calls ≡ length (contents l.bytes).calls) × (l.reader.stop ≡ (contents l.bytes).stop)
    × (length (contents l.bytes).calls ≤ 5000)

abbrev pub decreases-loop-calls : goal.decreases-loop-calls
decreases-loop-calls l = length l.reader.calls
