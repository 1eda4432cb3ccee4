use Rattle.machine_model.proofs.Restart.{restart_begins_all}
use Rattle.machine_model.proofs.laws.restart_begins_all.Goals as goal

pub returns : goal.returns
returns c = restart_begins_all
