use Rattle.instance_state.proofs.ProcessLaws.{begun_is_not_refused}
use Rattle.instance_state.proofs.laws.begun_is_not_refused.Goals as goal

pub returns : goal.returns
returns c = begun_is_not_refused
