-- The steps so far stand at the front, and the rest is unchanged.
use Rattle.std.proofs.Common.{◌≡◌, ◌+◌, ◌*◌, ◌∷◌, ◌++◌, length, take, drop}
use Rattle.guards.specs.Questions.{written_steps}
use Rattle.guards.proofs.writing.write_place.Given as goal

abbrev pub invariant-loop-i : goal.invariant-loop-i
invariant-loop-i l = l.out ≡ (length l.steps ∷ written_steps (take l.i l.steps)) ++ drop (2 * l.i + 1) l.initial.out
