use Rattle.well_formed.proofs.Judged.{each_tree_has_a_verdict}
use Rattle.well_formed.proofs.laws.each_tree_has_a_verdict.Goals as goal

pub returns : goal.returns
returns c = each_tree_has_a_verdict
