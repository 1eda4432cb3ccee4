use Rattle.machine_model.proofs.Going.{progress_law}
use Rattle.machine_model.proofs.laws.progress_law.Goals as goal

pub returns : goal.returns
returns c = progress_law
