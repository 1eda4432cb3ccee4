use Rattle.machine_model.proofs.OwnOrderLaws.{next_keeps_own_order}
use Rattle.machine_model.proofs.laws.next_keeps_own_order.Goals as goal

pub returns : goal.returns
returns c = next_keeps_own_order
