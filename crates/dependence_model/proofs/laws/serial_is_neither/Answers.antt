use Rattle.dependence_model.proofs.SerialLists.{serial-is_neither}
use Rattle.dependence_model.proofs.laws.serial_is_neither.Goals as goal

pub returns : goal.returns
returns c = serial-is_neither
