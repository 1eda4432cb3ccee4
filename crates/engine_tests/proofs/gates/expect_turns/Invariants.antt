use Rattle.engine_tests.specs.Ready.{IsReady}
use Rattle.engine_tests.proofs.gates.expect_turns.Given as goal

abbrev pub invariant-loop-place : goal.invariant-loop-place
invariant-loop-place g l = IsReady g.B.Resource l.engine
