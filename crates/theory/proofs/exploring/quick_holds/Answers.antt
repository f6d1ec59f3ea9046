-- What makes exploring quick holds.
use Rattle.theory.proofs.Quickened.{quick}
use Rattle.theory.proofs.exploring.quick_holds.Goals as goal

pub returns : goal.returns
returns c = quick
