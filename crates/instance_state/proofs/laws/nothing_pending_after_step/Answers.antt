use Rattle.instance_state.proofs.AfterSteps.{nothing_pending_after_step}
use Rattle.instance_state.proofs.laws.nothing_pending_after_step.Goals as goal

pub returns : goal.returns
returns c = nothing_pending_after_step
