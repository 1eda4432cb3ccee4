use Rattle.machine_model.proofs.FixedFree.{fixed_is_free}
use Rattle.machine_model.proofs.laws.fixed_is_free.Goals as goal

pub returns : goal.returns
returns c = fixed_is_free
