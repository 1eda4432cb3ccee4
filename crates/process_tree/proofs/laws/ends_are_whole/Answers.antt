use Rattle.process_tree.proofs.TreeLaws.{ends_are_whole}
use Rattle.process_tree.proofs.laws.ends_are_whole.Goals as goal

pub returns : goal.returns
returns c = ends_are_whole
