use Rattle.schedule_model.proofs.WithinLimits.{limits-hold}
use Rattle.schedule_model.proofs.laws.limits_hold.Goals as goal

pub returns : goal.returns
returns c = limits-hold
