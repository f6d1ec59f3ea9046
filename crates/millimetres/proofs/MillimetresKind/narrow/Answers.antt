-- What passes a test lies up to its greatest length, and what fails it lies above.
use Rattle.std.proofs.Common.{arith}
use Rattle.std.proofs.lemmas.Int.{to_z-of_z}
use Rattle.millimetres.specs.Intervals.{part_passing, part_failing}
use Rattle.millimetres.proofs.MillimetresKind.narrow.Goals as goal

pub returns-then-ask-clause-kept : goal.returns-then-ask-clause-kept
returns-then-ask-clause-kept c = λ n.
    let r = c.args.region in
    let kept = part_passing r.sort r.low r.high r.above r.below c.args.ask.test n in
    grind (arith, to_z-of_z)

pub returns-clause-kept : goal.returns-clause-kept
returns-clause-kept c = λ n.
    let r = c.args.region in
    let kept = part_failing r.sort r.low r.high r.above r.below c.args.ask.test n in
    grind (arith, to_z-of_z)
