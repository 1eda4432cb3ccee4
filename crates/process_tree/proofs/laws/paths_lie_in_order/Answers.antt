use Rattle.process_tree.proofs.TreeLaws.{paths_lie_in_order}
use Rattle.process_tree.proofs.laws.paths_lie_in_order.Goals as goal

pub returns : goal.returns
returns c = paths_lie_in_order
