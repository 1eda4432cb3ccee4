use Rattle.std.proofs.Common.{ap, ◌∙◌}
use Rattle.schedule_model.specs.Histories.{active}
use Rattle.schedule_rules.proofs.Completing.{stand_there, completed_there}
use Rattle.schedule_rules.proofs.completion.completed.Goals as goal

pub undos-requires-clause-branches : goal.undos-requires-clause-branches
undos-requires-clause-branches c =
    stand_there c.args.h.now.plans c.as_slice-plans.result.now c.args.h.now.events c.deref.result.now c.deref-2.result.now c.as_slice-plans.ensures
    (c.deref.ensures.value ∙ c.in_ok-entries.ensures) (c.deref-2.ensures.value ∙ (c.in_ok-processes.ensures ∙ ap active c.as_slice.ensures)) c.requires.planned c.requires.own_order

pub add_closings-requires-clause-branches : goal.add_closings-requires-clause-branches
add_closings-requires-clause-branches c =
    stand_there c.args.h.now.plans c.as_slice-plans.result.now c.args.h.now.events c.deref-3.result.now c.deref-4.result.now c.as_slice-plans.ensures
    (c.deref-3.ensures.value ∙ c.in_ok-entries.ensures) (c.deref-4.ensures.value ∙ (c.in_ok-processes.ensures ∙ ap active c.as_slice.ensures)) c.requires.planned c.requires.own_order

pub returns : goal.returns
returns c =
    let processes = c.in_ok-processes.ensures ∙ ap active c.as_slice.ensures in
    completed_there c.args.h.now.plans c.as_slice-plans.result.now c.args.h.now.events c.add_closings.new.added.items c.in_ok-added.added.items
    c.deref.result.now c.deref-3.result.now c.deref-2.result.now c.deref-4.result.now c.as_slice-plans.ensures
    (c.deref.ensures.value ∙ c.in_ok-entries.ensures) (c.deref-3.ensures.value ∙ c.in_ok-entries.ensures)
    (c.deref-2.ensures.value ∙ processes) (c.deref-4.ensures.value ∙ processes) c.in_ok-added.ensures c.in_ok-add_closings.ensures
