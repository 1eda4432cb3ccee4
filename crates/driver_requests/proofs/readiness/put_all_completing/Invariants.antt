use Rattle.std.proofs.Common.{◌≡◌, ◌++◌, length}
use Rattle.driver_requests.specs.Readiness.{completing_text}
use Rattle.driver_requests.proofs.readiness.put_all_completing.Given as goal

-- the lines so far and those to come are all lines
abbrev pub invariant-loop-rest : goal.invariant-loop-rest
invariant-loop-rest l = l.out.items ++ completing_text l.h.plans l.rest ≡ l.fn.out.items ++ completing_text l.h.plans l.processes

abbrev pub decreases-loop-rest : goal.decreases-loop-rest
decreases-loop-rest l = length l.rest
