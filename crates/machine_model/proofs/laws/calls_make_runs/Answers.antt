use Rattle.machine_model.proofs.SessionCalls.{calls_make_runs}
use Rattle.machine_model.proofs.laws.calls_make_runs.Goals as goal

pub returns : goal.returns
returns c = calls_make_runs
