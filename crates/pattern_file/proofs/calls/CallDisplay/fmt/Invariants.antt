-- The name, the call's own number and the put numbers so far are written.
use Rattle.std.specs.Fmt.{HasWritten, IsPlainFormatter}
use Rattle.pattern_file.specs.Calls.{text_of_parts, name_of_call}
use Rattle.pattern_file.specs.Names.{text_of}
use Rattle.pattern_file.proofs.calls.CallDisplay.fmt.Given as goal

abbrev pub invariant-loop-number : goal.invariant-loop-number
invariant-loop-number g l =
    IsPlainFormatter l.fn.f → HasWritten g.W.Write.write_str_gives l.fn.f (text_of_parts (text_of (name_of_call l.self)) l.own l.yielded) l.f
