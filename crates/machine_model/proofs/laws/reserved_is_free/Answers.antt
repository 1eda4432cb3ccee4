use Rattle.machine_model.proofs.ReservedFree.{reserved_is_free}
use Rattle.machine_model.proofs.laws.reserved_is_free.Goals as goal

pub returns : goal.returns
returns c = reserved_is_free
