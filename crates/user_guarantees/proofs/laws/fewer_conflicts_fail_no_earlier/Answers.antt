use Rattle.user_guarantees.proofs.FewerConflicts.{fewer_conflicts_fail_no_earlier}
use Rattle.user_guarantees.proofs.laws.fewer_conflicts_fail_no_earlier.Goals as goal

pub returns : goal.returns
returns c = fewer_conflicts_fail_no_earlier
