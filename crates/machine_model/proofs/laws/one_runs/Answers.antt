use Rattle.machine_model.proofs.OneOut.{one_runs}
use Rattle.machine_model.proofs.laws.one_runs.Goals as goal

pub returns : goal.returns
returns c = one_runs
