use Rattle.std.proofs.Common.{◌≡◌, [], length}
use Rattle.process_tree.specs.Order.{Each}
use Rattle.toml.specs.View.{items_view}
use Rattle.commute_table.specs.Document.{pairs_said, IsPairOf}
use Rattle.commute_table.proofs.pairs.pairs_of.Given as goal

abbrev pub invariant-loop-rest : goal.invariant-loop-rest
invariant-loop-rest l = record {
  same : pairs_said l.version l.ops l.pairs.items (items_view l.rest) ≡ pairs_said l.version l.ops [] (items_view l.items);
  within : Each (IsPairOf (length l.ops)) l.pairs.items;
}

abbrev pub decreases-loop-rest : goal.decreases-loop-rest
decreases-loop-rest l = length l.rest
