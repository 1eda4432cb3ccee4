use Rattle.std.proofs.Common.{◌≡◌}
use Rattle.instance_state.specs.Rows.{rows_to}
use Rattle.instance_state.proofs.rows.rows_of.Given as goal

abbrev pub invariant-loop-n : goal.invariant-loop-n
invariant-loop-n l = l.rows.items ≡ rows_to l.tree l.n
