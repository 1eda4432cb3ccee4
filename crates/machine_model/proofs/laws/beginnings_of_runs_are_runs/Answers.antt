use Rattle.machine_model.proofs.Snoc.{beginnings_of_runs_are_runs}
use Rattle.machine_model.proofs.laws.beginnings_of_runs_are_runs.Goals as goal

pub returns : goal.returns
returns c = beginnings_of_runs_are_runs
