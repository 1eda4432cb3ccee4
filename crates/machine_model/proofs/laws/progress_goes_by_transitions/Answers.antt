use Rattle.machine_model.proofs.OwnEvents.{progress_goes_by_transitions}
use Rattle.machine_model.proofs.laws.progress_goes_by_transitions.Goals as goal

pub returns : goal.returns
returns c = progress_goes_by_transitions
