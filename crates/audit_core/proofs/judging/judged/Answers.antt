use Rattle.std.proofs.Common.{◌≡◌, inl, inr, false, Some, None, List, length, sym, refl, ap, ◌∙◌, subst}
use Rattle.std.specs.List.{list_any}
use Rattle.process_tree.specs.Conflicts.{do_conflict}
use Rattle.process_tree.specs.declared.entry.Entry.{Entry}
use Rattle.schedule_model.specs.Course.{courses_of}
use Rattle.dependence_model.specs.Dependence.{left_of, is_barred, must_precede, processes_of}
use Rattle.dependence_model.specs.Audited.{completed_schedule}
use Rattle.audit_core.specs.Arrows.{FindsCycle}
use Rattle.audit_core.proofs.judging.judged.Goals as goal

pub returns-in-Some : goal.returns-in-Some
returns-in-Some c =
    let table = do_conflict c.args.c.now in
    let es : List Entry = completed_schedule (courses_of c.args.h.now.plans) c.args.h.now.events in
    let is : c.in_ok-left.left.items ≡ left_of table es = c.in_ok-left.ensures.left in
    let not_barred : is_barred table es ≡ false =
    ap (λ xs. list_any (λ x. x.entry.undo) xs) (sym (c.deref.ensures.value ∙ is)) ∙ (sym c.has_undo.ensures ∙ c.if-has_undo.false) in
    let told = subst (λ xs. FindsCycle (must_precede table xs) (processes_of xs) (Some c.in-Some.processes)) (c.deref-2.ensures.value ∙ is)
    (subst (FindsCycle (must_precede table c.deref-2.result.now) (processes_of c.deref-2.result.now)) c.in-Some.is c.in_ok-processes.ensures) in
    inr (ap length c.as_slice.ensures, record { not_barred = not_barred; cyclic = told.0; is = is; cycle = told.1 })

pub returns-in-None : goal.returns-in-None
returns-in-None c =
    let table = do_conflict c.args.c.now in
    let es : List Entry = completed_schedule (courses_of c.args.h.now.plans) c.args.h.now.events in
    let is : c.in_ok-left.left.items ≡ left_of table es = c.in_ok-left.ensures.left in
    let not_barred : is_barred table es ≡ false =
    ap (λ xs. list_any (λ x. x.entry.undo) xs) (sym (c.deref.ensures.value ∙ is)) ∙ (sym c.has_undo.ensures ∙ c.if-has_undo.false) in
    let none = subst (λ xs. FindsCycle (must_precede table xs) (processes_of xs) None) (c.deref-2.ensures.value ∙ is)
    (subst (FindsCycle (must_precede table c.deref-2.result.now) (processes_of c.deref-2.result.now)) c.in-None.is c.in_ok-processes.ensures) in
    inl (not_barred, none, refl)
