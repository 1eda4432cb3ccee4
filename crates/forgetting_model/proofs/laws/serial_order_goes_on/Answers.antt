use Rattle.forgetting_model.proofs.SerialOrder.{serial_order_goes_on}
use Rattle.forgetting_model.proofs.laws.serial_order_goes_on.Goals as goal

pub returns : goal.returns
returns c = serial_order_goes_on
