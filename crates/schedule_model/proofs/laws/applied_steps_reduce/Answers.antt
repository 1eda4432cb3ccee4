use Rattle.schedule_model.proofs.Chains.{applied-steps_reduce}
use Rattle.schedule_model.proofs.laws.applied_steps_reduce.Goals as goal

pub returns : goal.returns
returns c = applied-steps_reduce
