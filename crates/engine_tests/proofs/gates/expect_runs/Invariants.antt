use Rattle.history_files.specs.Boxes.{AreBoxes}
use Rattle.engine_tests.proofs.gates.expect_runs.Given as goal

abbrev pub invariant-loop-run : goal.invariant-loop-run
invariant-loop-run g l = AreBoxes g.B.Resource.sort l.resources.items
