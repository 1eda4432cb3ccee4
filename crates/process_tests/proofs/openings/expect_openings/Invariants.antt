use Rattle.history_files.specs.Boxes.{AreBoxes}
use Rattle.process_tests.proofs.openings.expect_openings.Given as goal

abbrev pub invariant-loop-case : goal.invariant-loop-case
invariant-loop-case g l = AreBoxes g.B.Resource.sort l.resources.items
