use Rattle.schedule_model.proofs.Prefixes.{planned-prefix}
use Rattle.schedule_model.proofs.laws.beginnings_are_planned.Goals as goal

pub returns : goal.returns
returns c = planned-prefix
