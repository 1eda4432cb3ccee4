use Rattle.instance_state.proofs.ProcessLaws.{committed_has_way_on}
use Rattle.instance_state.proofs.laws.committed_has_way_on.Goals as goal

pub returns : goal.returns
returns c = committed_has_way_on
