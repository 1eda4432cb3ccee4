use Rattle.schedule_model.proofs.ReductionLaws.{prefix-reducibility}
use Rattle.schedule_model.proofs.laws.beginnings_reduce.Goals as goal

pub returns : goal.returns
returns c = prefix-reducibility
