-- The theorem is the lemma.
use Rattle.rules.proofs.RoundTrip.{entries_fit}
use Rattle.rules.proofs.round_trip.entries_fit.Goals as goal

pub returns : goal.returns
returns c = entries_fit
