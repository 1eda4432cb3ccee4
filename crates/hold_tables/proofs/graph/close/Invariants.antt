use Rattle.hold_tables.proofs.Closed.{IsPassedUpTo}
use Rattle.hold_tables.proofs.graph.close.Given as goal

abbrev pub invariant-loop-place : goal.invariant-loop-place
invariant-loop-place l = IsPassedUpTo l.place l.fn.walks l.walks
