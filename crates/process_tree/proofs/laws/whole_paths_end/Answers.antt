use Rattle.process_tree.proofs.TreeLaws.{whole_paths_end}
use Rattle.process_tree.proofs.laws.whole_paths_end.Goals as goal

pub returns : goal.returns
returns c = whole_paths_end
