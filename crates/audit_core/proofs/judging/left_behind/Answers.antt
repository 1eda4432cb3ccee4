use Rattle.std.proofs.Common.{◌≡◌, ◌++◌, ◌∙◌, List, ap, sym, subst}
use Rattle.process_tree.specs.Conflicts.{do_conflict, operations_in}
use Rattle.process_tree.specs.declared.entry.Entry.{Entry}
use Rattle.schedule_model.specs.Course.{courses_of}
use Rattle.schedule_model.specs.Histories.{acts}
use Rattle.dependence_model.specs.Dependence.{IsLeft, placed, left_of}
use Rattle.dependence_model.specs.Audited.{completed_schedule}
use Rattle.audit_core.specs.Taking.{AreAllKnown}
use Rattle.audit_core.specs.Arrows.{AreFew}
use Rattle.audit_core.proofs.PlannedSteps.{schedule-known, schedule-few}
use Rattle.audit_core.proofs.Takings.{all-taken-few}
use Rattle.audit_core.proofs.judging.left_behind.Goals as goal

pub take_away-requires : goal.take_away-requires
take_away-requires c =
    let h = c.args.h.now in
    let whole : c.in_ok-list.list.items ≡ placed (completed_schedule (courses_of h.plans) h.events) =
    c.in_ok-list.ensures ∙ (ap (λ es. placed (acts (es ++ c.deref.result.now))) c.as_slice.ensures ∙ ap (λ es. placed (acts (h.events ++ es))) (c.deref.ensures.value ∙ c.in_ok-added.ensures)) in
    record { known = subst (AreAllKnown c.args.c.now) (sym whole) (schedule-known h.plans h.events c.args.c.now c.requires.planned c.requires.own_order) }

pub returns-clause-left : goal.returns-clause-left
returns-clause-left c =
    let h = c.args.h.now in
    let table = do_conflict c.args.c.now in
    let es : List Entry = completed_schedule (courses_of h.plans) h.events in
    let whole : c.in_ok-list.list.items ≡ placed es =
    c.in_ok-list.ensures ∙ (ap (λ es. placed (acts (es ++ c.deref.result.now))) c.as_slice.ensures ∙ ap (λ es. placed (acts (h.events ++ es))) (c.deref.ensures.value ∙ c.in_ok-added.ensures)) in
    let once = c.schedules_are_once.ensures h.plans h.events c.requires.planned.good c.requires.own_order in
    c.left_is_unique.ensures table es c.take_away.new.list.items (left_of table es) once
    (subst (λ xs. IsLeft table xs c.take_away.new.list.items) whole c.in_ok-take_away.ensures.left)
    (c.left_is_computed.ensures table es once)

pub returns-clause-few : goal.returns-clause-few
returns-clause-few c =
    let h = c.args.h.now in
    let whole : c.in_ok-list.list.items ≡ placed (completed_schedule (courses_of h.plans) h.events) =
    c.in_ok-list.ensures ∙ (ap (λ es. placed (acts (es ++ c.deref.result.now))) c.as_slice.ensures ∙ ap (λ es. placed (acts (h.events ++ es))) (c.deref.ensures.value ∙ c.in_ok-added.ensures)) in
    let left = c.in_ok-take_away.ensures.left in
    all-taken-few (do_conflict c.args.c.now) left.taken
    (subst AreFew (sym whole) (schedule-few h.plans h.events (operations_in c.args.c.now) c.requires.planned c.requires.own_order c.requires.few))
