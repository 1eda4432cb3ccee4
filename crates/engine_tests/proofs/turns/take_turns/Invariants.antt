use Rattle.engine_tests.specs.Ready.{IsReady}
use Rattle.engine_tests.proofs.turns.take_turns.Given as goal

abbrev pub invariant-loop : goal.invariant-loop
invariant-loop g l = IsReady g.B.Resource l.engine
