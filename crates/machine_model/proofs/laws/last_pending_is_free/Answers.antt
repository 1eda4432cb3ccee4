use Rattle.machine_model.proofs.LastPending.{last_pending_is_free}
use Rattle.machine_model.proofs.laws.last_pending_is_free.Goals as goal

pub returns : goal.returns
returns c = last_pending_is_free
