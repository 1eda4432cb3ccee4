use Rattle.schedule_model.proofs.WithinLimits.{beginnings-keep_limits, limits-of_beginnings}
use Rattle.schedule_model.proofs.laws.beginnings_keep_limits.Goals as goal

pub returns : goal.returns
returns c = record { any = beginnings-keep_limits; planned = limits-of_beginnings }
