use Rattle.machine_model.proofs.PendingFree.{pending_is_free}
use Rattle.machine_model.proofs.laws.pending_is_free.Goals as goal

pub returns : goal.returns
returns c = pending_is_free
