use Rattle.std.proofs.Common.{length}
use Rattle.replay_run.proofs.FirstActive.{LooksOn}
use Rattle.replay_run.proofs.idleness.first_active.Given as goal

abbrev pub invariant-loop-rest : goal.invariant-loop-rest
invariant-loop-rest l = LooksOn l.h.events l.rest

abbrev pub decreases-loop-rest : goal.decreases-loop-rest
decreases-loop-rest l = length l.rest
