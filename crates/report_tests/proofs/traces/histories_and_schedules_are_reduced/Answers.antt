use Rattle.std.proofs.Common.{ap}
use Rattle.schedule_model.specs.declared.history.History.{History}
use Rattle.report_tests.proofs.PlannedHistory.{both_undone-is_planned}
use Rattle.report_tests.proofs.traces.histories_and_schedules_are_reduced.Goals as goal

pub trace-requires-clause-planned : goal.trace-requires-clause-planned
trace-requires-clause-planned g c =
    rw (c.stock_table-table.ensures, ap (λ (h : History). h.plans) c.both_undone-history.ensures, ap (λ (h : History). h.events) c.both_undone-history.ensures) both_undone-is_planned
