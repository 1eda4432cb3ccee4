use Rattle.std.proofs.Common.{◌≡◌, ◌++◌, length}
use Rattle.schedule_model.specs.Histories.{of_process, steps_of}
use Rattle.process_report.proofs.ends.steps_of.Given as goal

abbrev pub invariant-loop-rest : goal.invariant-loop-rest
invariant-loop-rest l = l.steps.items ++ steps_of (of_process l.i l.rest) ≡ steps_of (of_process l.i l.entries)

abbrev pub decreases-loop-rest : goal.decreases-loop-rest
decreases-loop-rest l = length l.rest
