-- One step more.
use Rattle.std.proofs.Common.{arith}
use Rattle.std.proofs.lemmas.List.{length-set}
use Rattle.guards.proofs.Putting.{place_more}
use Rattle.guards.proofs.writing.write_place.Goals as goal

pub loop-i-preserved : goal.loop-i-preserved
loop-i-preserved c = place_more c.args.steps.now _ c.loop-i.out c.loop-i.i _ c.loop-i-test.true (omega (arith, length-set c.args.out.now 0 c.in_ok-count.count)) c.loop-i.invariant
