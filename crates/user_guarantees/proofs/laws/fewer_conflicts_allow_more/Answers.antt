use Rattle.user_guarantees.proofs.FewerConflicts.{fewer_conflicts_allow_more}
use Rattle.user_guarantees.proofs.laws.fewer_conflicts_allow_more.Goals as goal

pub returns : goal.returns
returns c = fewer_conflicts_allow_more
