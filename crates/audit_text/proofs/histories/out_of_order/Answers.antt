use Rattle.std.proofs.Common.{sym}
use Rattle.schedule_model.specs.Course.{courses_of}
use Rattle.audit_text.proofs.OwnOrders.{at_is_first, legal_in_order}
use Rattle.audit_text.proofs.histories.out_of_order.Goals as goal

pub returns-in-Ok : goal.returns-in-Ok
returns-in-Ok c =
    let h = c.args.h.now in
    sym (legal_in_order c.in_ok-table.table c.in_ok-table.ensures.none (courses_of h.plans) h.events c.in-Ok.ensures.legal)

pub returns-in-Err-At : goal.returns-in-Err-At
returns-in-Err-At c =
    let h = c.args.h.now in
    at_is_first c.in_ok-table.table c.in_ok-table.ensures.none (courses_of h.plans) h.events c.in-Err-At.field-0 c.in-Err-At.n c.in-Err-At.field-0-is c.in-Err-At.ensures.first
