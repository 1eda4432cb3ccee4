use Rattle.std.proofs.Common.{◌≡◌, ◌++◌, length}
use Rattle.schedule_model.specs.Histories.{acts, of_process}
use Rattle.core_state.proofs.opening.acts_of.Given as goal

-- what was passed and what is left are the acts of the process
abbrev pub invariant-loop-rest : goal.invariant-loop-rest
invariant-loop-rest l = l.own.items ++ of_process l.i (acts l.rest) ≡ of_process l.i (acts l.events)

abbrev pub decreases-loop-rest : goal.decreases-loop-rest
decreases-loop-rest l = length l.rest
