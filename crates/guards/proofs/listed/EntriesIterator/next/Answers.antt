-- An entry is the first answer that the list says.
use Rattle.std.proofs.Common.{rules, arith, ap, length}
use Rattle.guards.proofs.Listing.{entry_first}
use Rattle.guards.proofs.listed.EntriesIterator.next.Goals as goal

pub returns : goal.returns
returns c =
    let steps = entry_first c.args.self.now.numbers.now _ _ _ _ c.in_ok-question.ensures c.in_ok-answer.ensures.cases.0 c.if-answer-gt1.false in
    record { steps = steps; goes = record { on = λ f. (tt, tt, omega (arith, ap length steps)); keeps = search rules; rests = search rules } }
