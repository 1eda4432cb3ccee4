use Rattle.std.proofs.Common.{◌≡◌, ◌++◌, length, map}
use Rattle.process_report.specs.Lines.{text_of}
use Rattle.replay_run.specs.Printed.{step_line}
use Rattle.replay_run.proofs.printing.put_steps.Given as goal

abbrev pub invariant-loop-rest : goal.invariant-loop-rest
invariant-loop-rest l = l.out.items ++ text_of (map (step_line l.plans l.ops) l.rest) ≡ l.fn.out.items ++ text_of (map (step_line l.plans l.ops) l.lines)

abbrev pub decreases-loop-rest : goal.decreases-loop-rest
decreases-loop-rest l = length l.rest
