use Rattle.process_tree.proofs.TreeLaws.{next_steps_have_a_class}
use Rattle.process_tree.proofs.laws.next_steps_have_a_class.Goals as goal

pub returns : goal.returns
returns c = next_steps_have_a_class
