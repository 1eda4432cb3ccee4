use Rattle.history_files.specs.Boxes.{AreBoxes}
use Rattle.engine_tests.proofs.stops.expect_calls.Given as goal

abbrev pub invariant-loop-left : goal.invariant-loop-left
invariant-loop-left g l = AreBoxes g.B.Resource.sort l.resources.items
