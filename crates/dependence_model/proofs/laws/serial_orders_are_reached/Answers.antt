use Rattle.dependence_model.proofs.SerialOrders.{serial_orders-reached}
use Rattle.dependence_model.proofs.laws.serial_orders_are_reached.Goals as goal

pub returns : goal.returns
returns c = serial_orders-reached
