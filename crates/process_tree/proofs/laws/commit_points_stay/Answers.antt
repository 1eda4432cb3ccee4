use Rattle.process_tree.proofs.TreeLaws.{commit_points_stay}
use Rattle.process_tree.proofs.laws.commit_points_stay.Goals as goal

pub returns : goal.returns
returns c = commit_points_stay
