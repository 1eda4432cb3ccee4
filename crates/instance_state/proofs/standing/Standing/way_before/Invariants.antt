use Rattle.std.proofs.Common.{length}
use Rattle.instance_state.specs.Standings.{left_from}
use Rattle.instance_state.proofs.Undone.{PassedOver}
use Rattle.instance_state.proofs.standing.Standing.way_before.Given as goal

abbrev pub invariant-loop-way : goal.invariant-loop-way
invariant-loop-way l = PassedOver l.rows.shape l.last l.self.onward l.way

abbrev pub decreases-loop-way : goal.decreases-loop-way
decreases-loop-way l = left_from (length l.rows.shape.kinds) l.way
