use Rattle.machine_model.proofs.CallsKept.{calls_keep_runs}
use Rattle.machine_model.proofs.laws.calls_keep_runs.Goals as goal

pub returns : goal.returns
returns c = calls_keep_runs
