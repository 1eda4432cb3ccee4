use Rattle.std.proofs.Common.{◌++◌, ap, sym, ◌∙◌}
use Rattle.schedule_model.specs.Histories.{acts}
use Rattle.schedule_model.proofs.Appends.{acts-append}
use Rattle.reduction_trace.proofs.schedule.schedule.Goals as goal

pub returns : goal.returns
returns c =
    c.in_ok-add_acts-2.ensures
    ∙ (ap (λ es. es ++ acts c.args.then.now) (c.in_ok-add_acts.ensures ∙ ap (λ es. es ++ acts c.args.first.now) c.new-list.ensures.items)
    ∙ sym (acts-append c.args.first.now c.args.then.now))
