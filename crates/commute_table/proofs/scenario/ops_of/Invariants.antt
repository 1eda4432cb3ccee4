use Rattle.std.proofs.Common.{◌≡◌, length, []}
use Rattle.toml.specs.View.{items_view}
use Rattle.commute_table.specs.Document.{ops_said}
use Rattle.commute_table.proofs.scenario.ops_of.Given as goal

abbrev pub invariant-loop-rest : goal.invariant-loop-rest
invariant-loop-rest l = ops_said l.ops.items (items_view l.rest) ≡ ops_said [] (items_view l.items)

abbrev pub decreases-loop-rest : goal.decreases-loop-rest
decreases-loop-rest l = length l.rest
