use Rattle.machine_model.proofs.HoldChanges.{beginnings_stop}
use Rattle.machine_model.proofs.laws.beginnings_stop.Goals as goal

pub returns : goal.returns
returns c = beginnings_stop
