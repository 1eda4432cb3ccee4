use Rattle.history_files.specs.Boxes.{AreBoxes}
use Rattle.engine_tests.proofs.stops.expect_stops.Given as goal

abbrev pub invariant-loop-keep : goal.invariant-loop-keep
invariant-loop-keep g l = AreBoxes g.B.Resource.sort l.resources.items
