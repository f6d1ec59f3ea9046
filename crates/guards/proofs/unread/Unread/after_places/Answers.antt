-- One place more.
use Rattle.std.proofs.Common.{◌+◌, ◌-◌, ℕ, sym, ap, ◌∙◌, arith}
use Rattle.guards.specs.Questions.{read_place}
use Rattle.guards.proofs.Reading.{after_more}
use Rattle.guards.proofs.unread.Unread.after_places.Goals as goal

pub loop-preserved : goal.loop-preserved
loop-preserved c =
    let read = ap (λ (m : ℕ). read_place m c.loop.unread.numbers.now) (sym c.loop.invariant.same) ∙ sym c.in_ok-unread.ensures.read in
    record {
      same = c.in_ok-unread.ensures.same ∙ c.loop.invariant.same;
      left = sym (after_more c.args.self.most_steps (c.args.count - c.loop.counter) (c.args.count - (c.loop.counter + 1)) c.loop.unread.numbers.now _ (omega arith) read) ∙ c.loop.invariant.left;
    }
