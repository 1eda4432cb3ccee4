use Rattle.std.proofs.Common.{◌<◌, ◌&&◌, refl, length, sym, ◌∙◌, ap, subst}
use Rattle.std.specs.List.{list_any}
use Rattle.process_tree.specs.declared.entry.Entry.{Entry}
use Rattle.process_tree.specs.Conflicts.{do_conflict}
use Rattle.process_tree.specs.Order.{Each}
use Rattle.schedule_model.specs.Conflict.{conflict}
use Rattle.history_judging.specs.Conflicting.{is_marked}
use Rattle.history_judging.proofs.Circles.{marked-circle, no_circle}
use Rattle.history_judging.proofs.circle.closes_circle.Goals as goal

pub returns-then-not-conflicts_with_any : goal.returns-then-not-conflicts_with_any
returns-then-not-conflicts_with_any c =
    sym (no_circle (do_conflict c.args.c.now) c.args.entries.now c.args.step.now (sym c.conflicts_with_any.ensures ∙ c.if-not-conflicts_with_any.true))

pub conflicts_with_marked-requires-clause-numbers : goal.conflicts_with_marked-requires-clause-numbers
conflicts_with_marked-requires-clause-numbers c =
    subst (λ n. Each (λ (e : Entry). e.process < n) c.args.entries.now) (sym (ap length c.deref.ensures.value ∙ c.in_ok-marks.ensures.len)) c.requires.numbers

pub returns : goal.returns
returns c =
    let table = do_conflict c.args.c.now in
    let b = c.args.step.now in
    c.conflicts_with_marked.ensures
    ∙ (ap (λ ms. list_any (λ x. conflict table b x && is_marked ms x.process) c.args.entries.now) c.deref.ensures.value
    ∙ marked-circle table c.args.entries.now b.process (is_marked c.in_ok-marks.marks.items) c.in_ok-marks.ensures.own c.in_ok-marks.ensures.closed c.in_ok-marks.ensures.only b refl)
