use Rattle.std.proofs.Common.{◌≡◌}
use Rattle.core_tests.specs.Pieces.{AreHandedBy}
use Rattle.core_tests.proofs.plays.expect_turns.Given as goal

abbrev pub invariant-loop-turn : goal.invariant-loop-turn
invariant-loop-turn g l = AreHandedBy l.core l.pieces.items × (l.core.conflicts ≡ l.fn.core.conflicts)
