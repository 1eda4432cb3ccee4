use Rattle.std.proofs.Common.{length}
use Rattle.driver_requests.proofs.StillActive.{FindsOn}
use Rattle.driver_requests.proofs.readiness.active_processes.Given as goal

-- who is found, and who may be found in the events to come
abbrev pub invariant-loop-rest : goal.invariant-loop-rest
invariant-loop-rest l = FindsOn l.h.events l.processes.items l.rest

abbrev pub decreases-loop-rest : goal.decreases-loop-rest
decreases-loop-rest l = length l.rest
