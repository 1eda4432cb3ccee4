use Rattle.std.proofs.Common.{◌≡◌, ◌++◌, length}
use Rattle.schedule_model.specs.Histories.{ends}
use Rattle.reduction_trace.proofs.schedule.add_ends.Given as goal

abbrev pub invariant-loop-rest : goal.invariant-loop-rest
invariant-loop-rest l = l.order.items ++ ends l.rest ≡ l.fn.order.items ++ ends l.events

abbrev pub decreases-loop-rest : goal.decreases-loop-rest
decreases-loop-rest l = length l.rest
