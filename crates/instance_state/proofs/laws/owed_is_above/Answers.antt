use Rattle.instance_state.proofs.ProcessLaws.{owed_is_above}
use Rattle.instance_state.proofs.laws.owed_is_above.Goals as goal

pub returns : goal.returns
returns c = owed_is_above
