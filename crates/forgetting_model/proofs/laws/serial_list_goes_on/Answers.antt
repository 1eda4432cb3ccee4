use Rattle.forgetting_model.proofs.SerialOrder.{serial_list_goes_on}
use Rattle.forgetting_model.proofs.laws.serial_list_goes_on.Goals as goal

pub returns : goal.returns
returns c = serial_list_goes_on
