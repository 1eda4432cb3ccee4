use Rattle.process_tree.proofs.TreeLaws.{one_branch_to_a_step}
use Rattle.process_tree.proofs.laws.one_branch_to_a_step.Goals as goal

pub returns : goal.returns
returns c = one_branch_to_a_step
