use Rattle.std.proofs.Common.{◌++◌, ap, sym, ◌∙◌}
use Rattle.schedule_model.specs.Histories.{ends}
use Rattle.schedule_model.proofs.Appends.{ends-append}
use Rattle.reduction_trace.proofs.schedule.order_of_ends.Goals as goal

pub returns : goal.returns
returns c =
    c.in_ok-add_ends-2.ensures
    ∙ (ap (λ is. is ++ ends c.args.then.now) (c.in_ok-add_ends.ensures ∙ ap (λ is. is ++ ends c.args.first.now) c.new-order.ensures.items)
    ∙ sym (ends-append c.args.first.now c.args.then.now))
