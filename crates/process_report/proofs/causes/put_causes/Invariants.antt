use Rattle.std.proofs.Common.{◌≡◌, ◌++◌, length, map}
use Rattle.process_report.specs.Lines.{text_of, cause_line}
use Rattle.process_report.proofs.causes.put_causes.Given as goal

abbrev pub invariant-loop-rest : goal.invariant-loop-rest
invariant-loop-rest l = l.out.items ++ text_of (map (cause_line l.plans) l.rest) ≡ l.fn.out.items ++ text_of (map (cause_line l.plans) l.causes)

abbrev pub decreases-loop-rest : goal.decreases-loop-rest
decreases-loop-rest l = length l.rest
