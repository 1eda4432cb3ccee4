use Rattle.machine_model.proofs.PendingClosed.{pending_is_closed}
use Rattle.machine_model.proofs.laws.pending_is_closed.Goals as goal

pub returns : goal.returns
returns c = pending_is_closed
