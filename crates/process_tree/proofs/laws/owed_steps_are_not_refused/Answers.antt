use Rattle.process_tree.proofs.TreeLaws.{owed_steps_are_not_refused}
use Rattle.process_tree.proofs.laws.owed_steps_are_not_refused.Goals as goal

pub returns : goal.returns
returns c = owed_steps_are_not_refused
