use Rattle.process_tree.proofs.TreeLaws.{paths_of_trees_part}
use Rattle.process_tree.proofs.laws.paths_part.Goals as goal

pub returns : goal.returns
returns c = paths_of_trees_part
