use Rattle.std.proofs.Common.{◌≡◌, ◌<◌, ◌++◌, ◌∷◌, [], sym, ◌∙◌, ap, refl, subst, arith}
use Rattle.process_tree.specs.declared.entry.Entry.{Entry}
use Rattle.process_tree.specs.Conflicts.{operations_in}
use Rattle.process_tree.specs.Order.{Each}
use Rattle.process_tree.specs.Recovery.{forward}
use Rattle.process_tree.specs.Shape.{shape_of}
use Rattle.process_tree.proofs.InTurn.{step_within}
use Rattle.schedule_model.specs.Course.{course_of}
use Rattle.schedule_rules.specs.Recovering.{owed_by}
use Rattle.schedule_rules.proofs.Known.{op_known, owed_known, owed_own}
use Rattle.history_judging.proofs.judging.commit_is_clear.Goals as goal

pub any_conflicts-requires-clause-own : goal.any_conflicts-requires-clause-own
any_conflicts-requires-clause-own c =
    let plan = c.args.plan.now in
    let e = c.args.e.now in
    let places = forward (shape_of plan.tree) (c.args.steps.now ++ e.step ∷ []) in
    let held = c.deref.ensures.value ∙ (c.in_ok-add_owed.ensures ∙ ap (λ es. es ++ owed_by (course_of plan) e.process places) c.in_ok-held.ensures.items) in
    subst (Each (λ (x : Entry). x.process ≡ e.process)) (sym held) (refl, owed_own (course_of plan) e.process places)

pub any_conflicts-requires-clause-steps : goal.any_conflicts-requires-clause-steps
any_conflicts-requires-clause-steps c =
    let plan = c.args.plan.now in
    let e = c.args.e.now in
    let r = c.requires.ready in
    let n = operations_in c.args.c.now in
    let places = forward (shape_of plan.tree) (c.args.steps.now ++ e.step ∷ []) in
    let held = c.deref.ensures.value ∙ (c.in_ok-add_owed.ensures ∙ ap (λ es. es ++ owed_by (course_of plan) e.process places) c.in_ok-held.ensures.items) in
    let known = op_known plan r.good n r.known e.op e.step c.requires.op (step_within plan.tree c.args.steps.now e.step r.good.tree c.requires.goes) in
    subst (Each (λ (x : Entry). x.op < n)) (sym held) (known, owed_known plan r.good n r.known e.process places (omega (arith, known)))
