use Rattle.instance_state.proofs.ProcessLaws.{pending_can_be_undone}
use Rattle.instance_state.proofs.laws.pending_can_be_undone.Goals as goal

pub returns : goal.returns
returns c = pending_can_be_undone
