use Rattle.machine_model.proofs.Victims.{victims_run_dry}
use Rattle.machine_model.proofs.laws.victims_run_dry.Goals as goal

pub returns : goal.returns
returns c = victims_run_dry
