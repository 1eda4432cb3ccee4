use Rattle.dependence_model.proofs.OnceSchedules.{schedules-once}
use Rattle.dependence_model.proofs.laws.schedules_are_once.Goals as goal

pub returns : goal.returns
returns c = schedules-once
