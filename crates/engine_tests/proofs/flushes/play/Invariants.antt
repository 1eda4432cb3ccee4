use Rattle.engine_tests.specs.Ready.{MayQueue}
use Rattle.engine_tests.proofs.flushes.play.Given as goal

abbrev pub invariant-loop-line : goal.invariant-loop-line
invariant-loop-line g l = MayQueue g.B.Resource l.engine l.queued
