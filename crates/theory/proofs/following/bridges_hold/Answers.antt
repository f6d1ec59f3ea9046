-- Cites the laws form by form.
use Rattle.theory.proofs.Bridges.{bridges_hold}
use Rattle.theory.proofs.following.bridges_hold.Goals as goal

pub returns : goal.returns
returns c = bridges_hold
