use Rattle.std.proofs.Common.{◌≡◌, ◌∙◌, List, ap}
use Rattle.process_tree.specs.Conflicts.{do_conflict}
use Rattle.process_tree.specs.declared.entry.Entry.{Entry}
use Rattle.schedule_model.specs.Course.{courses_of}
use Rattle.dependence_model.specs.Dependence.{entries_of, left_of}
use Rattle.dependence_model.specs.SerialOrder.{one_by_one, order_of}
use Rattle.dependence_model.specs.Audited.{completed_schedule}
use Rattle.audit_core.proofs.Precede.{if_ok}
use Rattle.audit_core.proofs.judging.serial_schedule.Goals as goal

pub returns : goal.returns
returns c =
    let table = do_conflict c.args.c.now in
    let es : List Entry = completed_schedule (courses_of c.args.h.now.plans) c.args.h.now.events in
    let is : c.in_ok-left.left.items ≡ left_of table es = c.in_ok-left.ensures.left in
    if_ok _ _ c.one_by_one.result c.one_by_one.ensures
    (λ serial made. made
    ∙ (ap (λ order. one_by_one order (entries_of c.deref-2.result.now)) (c.deref-3.ensures.value ∙ (c.in_ok-order.ensures ∙ ap (order_of table) (c.deref.ensures.value ∙ is)))
    ∙ ap (λ left. one_by_one (order_of table (left_of table es)) (entries_of left)) (c.deref-2.ensures.value ∙ is)))
