use Rattle.machine_model.proofs.FixingFree.{fixing_is_free}
use Rattle.machine_model.proofs.laws.fixing_is_free.Goals as goal

pub returns : goal.returns
returns c = fixing_is_free
