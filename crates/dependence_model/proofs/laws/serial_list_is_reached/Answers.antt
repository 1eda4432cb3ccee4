use Rattle.dependence_model.proofs.SerialOrders.{serial_list-reached}
use Rattle.dependence_model.proofs.laws.serial_list_is_reached.Goals as goal

pub returns : goal.returns
returns c = serial_list-reached
