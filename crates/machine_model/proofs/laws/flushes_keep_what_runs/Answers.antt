use Rattle.machine_model.proofs.QueuedPieces.{flushes_keep_what_runs}
use Rattle.machine_model.proofs.laws.flushes_keep_what_runs.Goals as goal

pub returns : goal.returns
returns c = flushes_keep_what_runs
