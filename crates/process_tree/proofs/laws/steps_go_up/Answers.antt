use Rattle.process_tree.proofs.TreeLaws.{steps_go_up}
use Rattle.process_tree.proofs.laws.steps_go_up.Goals as goal

pub returns : goal.returns
returns c = steps_go_up
