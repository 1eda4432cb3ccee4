use Rattle.machine_model.proofs.TurnRuns.{turns_make_runs}
use Rattle.machine_model.proofs.laws.turns_make_runs.Goals as goal

pub returns : goal.returns
returns c = turns_make_runs
