use Rattle.driver_guarantees.proofs.EffectOrder.{sessions_keep_order}
use Rattle.driver_guarantees.proofs.laws.sessions_keep_order.Goals as goal

pub returns : goal.returns
returns c = sessions_keep_order
