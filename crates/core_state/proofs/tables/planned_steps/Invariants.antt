use Rattle.std.proofs.Common.{◌≡◌, ◌++◌, map, length}
use Rattle.core_state.specs.OpenTables.{planned_step}
use Rattle.core_state.proofs.tables.planned_steps.Given as goal

abbrev pub invariant-loop-rest : goal.invariant-loop-rest
invariant-loop-rest l = l.planned.items ++ map (planned_step l.plan) l.rest ≡ map (planned_step l.plan) l.steps

abbrev pub decreases-loop-rest : goal.decreases-loop-rest
decreases-loop-rest l = length l.rest
