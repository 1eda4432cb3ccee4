use Rattle.process_tree.proofs.TreeLaws.{each_step_has_a_path}
use Rattle.process_tree.proofs.laws.each_step_has_a_path.Goals as goal

pub returns : goal.returns
returns c = each_step_has_a_path
