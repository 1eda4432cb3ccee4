use Rattle.history_files.specs.Boxes.{AreBoxes}
use Rattle.engine_tests.proofs.flushes.expect_rows.Given as goal

abbrev pub invariant-loop-row : goal.invariant-loop-row
invariant-loop-row g l = AreBoxes g.B.Resource.sort l.resources.items
