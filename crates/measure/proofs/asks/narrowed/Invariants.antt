-- The region holds the atoms that have agreed so far: those that also agree with what is left of the list are the answers.
use Rattle.std.proofs.Common.{◌≡◌, ◌&&◌, drop, ℤ}
use Rattle.measure.specs.Asks.{agrees, answers}
use Rattle.measure.proofs.asks.narrowed.Given as goal

abbrev pub invariant-loop-ask : goal.invariant-loop-ask
invariant-loop-ask g l =
    let k = g.K.Kind in
    let m = k.meaning l.kind in
    (k.sortof l.kind l.region ≡ l.sort)
    × ((n : ℤ) → (k.holds l.kind l.region n && agrees m l.sort n (drop l.ask-index l.asks)) ≡ answers m l.sort n l.asks)
