use Rattle.std.proofs.Common.{rules}
use Rattle.process_tree.proofs.Forms.{same_outline}
use Rattle.process_tree.proofs.plan.Plan.copy.Goals as goal

pub returns : goal.returns
returns c = record {
  name = c.in_ok-name.ensures;
  tree = c.in_ok-tree.ensures;
  says = same_outline c.in_ok-tree.tree c.args.self.now.tree c.in_ok-tree.ensures;
  ops = search rules;
}
