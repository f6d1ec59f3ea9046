-- What is left is within the entries of the file.
use Rattle.pattern_file.proofs.FewCalls.{rest_within}
use Rattle.pattern_file.proofs.unread.Unread.within_entries.Goals as goal

pub returns : goal.returns
returns c = let w = c.args.self.now.whole in rest_within 5000 c.args.self.now.at _ _ w.0 w.1 w.2
