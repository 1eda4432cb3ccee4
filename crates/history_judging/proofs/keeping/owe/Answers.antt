use Rattle.std.proofs.Common.{◌++◌, ◌∷◌, [], not, filter, rules, sym, ap, ◌∙◌, if◌then◌else◌}
use Rattle.std.specs.List.{list_any}
use Rattle.std.proofs.lemmas.Fn.{filter_same}
use Rattle.process_tree.specs.declared.entry.Entry.{Entry}
use Rattle.process_tree.specs.Recovery.{forward}
use Rattle.process_tree.specs.Shape.{shape_of, commits}
use Rattle.process_tree.proofs.InTurn.{step_within}
use Rattle.schedule_model.specs.Histories.{same_step}
use Rattle.history_judging.specs.Judging.{steps_among}
use Rattle.history_judging.specs.Keeping.{of_others}
use Rattle.schedule_model.specs.Course.{course_of}
use Rattle.schedule_rules.specs.Recovering.{owed_by}
use Rattle.history_judging.proofs.keeping.owe.Goals as goal

pub returns-then-has_same_step : goal.returns-then-has_same_step
returns-then-has_same_step c =
    let e = c.args.e.now in
    let plan = c.args.plan.now in
    let owed = c.args.owed.now.items in
    filter_same _ (λ (s : Entry). not (same_step s e)) _ (λ x b f' k. search rules) owed c.retain.new.self.items c.retain.ensures.filtered
    ∙ sym (ap (λ t. if t then filter (λ s. not (same_step s e)) owed
    else if commits (shape_of plan.tree) e.step
    then of_others e.process owed ++ owed_by (course_of plan) e.process (forward (shape_of plan.tree) (steps_among c.args.net.now e.process ++ e.step ∷ []))
    else owed) (ap (list_any (same_step e)) (sym c.deref.ensures.value) ∙ (sym c.has_same_step.ensures ∙ c.if-has_same_step.true)))

pub commits-requires-clause-step : goal.commits-requires-clause-step
commits-requires-clause-step c = step_within c.args.plan.now.tree (steps_among c.args.net.now c.args.e.now.process) c.args.e.now.step c.requires.good.tree c.requires.goes
