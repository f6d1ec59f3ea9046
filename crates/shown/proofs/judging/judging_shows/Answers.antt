-- What differs is shown.
use Rattle.shown.proofs.Judgements.{judging_shows}
use Rattle.shown.proofs.judging.judging_shows.Goals as goal

pub returns : goal.returns
returns c = judging_shows
