-- Cites the lemma on workbooks that may be judged.
use Rattle.accepted.proofs.Judgeable.{reached_judgeable}
use Rattle.accepted.proofs.reached_judgeable.Goals as goal

pub returns : goal.returns
returns c = reached_judgeable
