use Rattle.history_files.specs.Boxes.{AreBoxes}
use Rattle.engine_tests.proofs.stops.expect_any_stop.Given as goal

abbrev pub invariant-loop-count : goal.invariant-loop-count
invariant-loop-count g l = AreBoxes g.B.Resource.sort l.resources.items
