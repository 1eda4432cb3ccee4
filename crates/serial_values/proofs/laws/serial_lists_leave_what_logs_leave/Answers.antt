use Rattle.serial_values.proofs.LogValues.{serial_lists}
use Rattle.serial_values.proofs.laws.serial_lists_leave_what_logs_leave.Goals as goal

pub returns : goal.returns
returns c = serial_lists
