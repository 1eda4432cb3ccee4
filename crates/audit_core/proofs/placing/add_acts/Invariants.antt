use Rattle.std.proofs.Common.{◌≡◌, ◌++◌, ◌+◌, length}
use Rattle.schedule_model.specs.Histories.{acts}
use Rattle.dependence_model.specs.Dependence.{placed_from}
use Rattle.audit_core.proofs.placing.add_acts.Given as goal

abbrev pub invariant-loop-rest : goal.invariant-loop-rest
invariant-loop-rest l =
    l.list.items ++ placed_from (length l.list.items + 1) (acts l.rest) ≡ l.fn.list.items ++ placed_from (length l.fn.list.items + 1) (acts l.events)

abbrev pub decreases-loop-rest : goal.decreases-loop-rest
decreases-loop-rest l = length l.rest
