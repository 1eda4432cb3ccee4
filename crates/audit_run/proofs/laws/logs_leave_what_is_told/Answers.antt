use Rattle.audit_run.proofs.ToldValues.{logs_leave}
use Rattle.audit_run.proofs.laws.logs_leave_what_is_told.Goals as goal

pub returns : goal.returns
returns c = logs_leave c.first_commuting_is_exact.ensures c.serial_lists_leave_what_logs_leave.ensures
