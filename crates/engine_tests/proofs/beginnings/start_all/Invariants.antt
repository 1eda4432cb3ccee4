use Rattle.engine_tests.specs.Ready.{IsReady}
use Rattle.engine_tests.proofs.beginnings.start_all.Given as goal

abbrev pub invariant-loop-text : goal.invariant-loop-text
invariant-loop-text g l = IsReady g.B.Resource l.engine
