-- The numbers before what is left are the question at the front.
use Rattle.std.proofs.Common.{arith, refl}
use Rattle.guards.proofs.Reading.{after_question, front_whole, front_is}
use Rattle.guards.proofs.unread.Unread.question.Goals as goal

pub invariant_of-result : goal.invariant_of-result
invariant_of-result c =
    let l = c.args.self.numbers.now in
    record { whole = front_whole _ l _ (after_question _ _ l _ c.in-len2-up.len_at_least c.if-count-gt-MOST_PLACES.false c.from.ensures c.in_ok-rest.ensures.read) _ refl (omega arith) }

pub returns : goal.returns
returns c =
    let l = c.args.self.numbers.now in
    front_is _ l _ (after_question _ _ l _ c.in-len2-up.len_at_least c.if-count-gt-MOST_PLACES.false c.from.ensures c.in_ok-rest.ensures.read) _ refl (omega arith)
