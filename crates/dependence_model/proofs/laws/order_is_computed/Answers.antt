use Rattle.dependence_model.proofs.Orders.{order-computed}
use Rattle.dependence_model.proofs.laws.order_is_computed.Goals as goal

pub returns : goal.returns
returns c = order-computed
