use Rattle.std.proofs.Common.{◌≡◌, ◌≤◌, ◌+◌, length}
use Rattle.schedule_model.specs.Histories.{of_process}
use Rattle.hold_tables.proofs.looking.count_of.Given as goal

abbrev pub invariant-loop-rest : goal.invariant-loop-rest
invariant-loop-rest l = (l.count + length (of_process l.process l.rest) ≡ length (of_process l.process l.net)) × (l.count + length l.rest ≤ length l.net)

abbrev pub decreases-loop-rest : goal.decreases-loop-rest
decreases-loop-rest l = length l.rest
