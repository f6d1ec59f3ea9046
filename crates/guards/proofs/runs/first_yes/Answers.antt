-- What a run that finds a yes has put to the host.
use Rattle.guards.specs.Views.{question_of}
use Rattle.guards.proofs.Asking.{next_is, run_found}
use Rattle.guards.proofs.runs.first_yes.Goals as goal

pub returns-then-ask-clause-noted : goal.returns-then-ask-clause-noted
returns-then-ask-clause-noted g c =
    let m = g.H.Host in
    let e = c.ask.ensures in
    let next = next_is question_of c.args.questions.now c.loop-i.i _ c.loop-i-test.true c.index-questions-i.is in
    (run_found m.rule m.moved m.laws _ _ _ _ _ _ _ next c.loop-i.invariant e.answer e.same e.noted c.if-ask.true).2
