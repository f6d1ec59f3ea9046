-- What is left after the places that are left is the same.
use Rattle.std.proofs.Common.{◌≡◌, ◌-◌}
use Rattle.guards.proofs.Reading.{after_places}
use Rattle.guards.proofs.unread.Unread.after_places.Given as goal

abbrev pub invariant-loop : goal.invariant-loop
invariant-loop l = record {
  same : l.unread.most_steps ≡ l.initial.unread.most_steps;
  left : after_places l.initial.unread.most_steps (l.count - l.counter) l.unread.numbers.now ≡ after_places l.initial.unread.most_steps l.count l.initial.unread.numbers.now;
}
