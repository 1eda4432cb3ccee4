use Rattle.std.proofs.Common.{subst}
use Rattle.process_tree.specs.Laws.{IsTreeShape}
use Rattle.instance_state.proofs.RowFacts.{shape_is}
use Rattle.instance_state.proofs.rows.Rows.first.Goals as goal

pub returns-clause-tree : goal.returns-clause-tree
returns-clause-tree c = subst (λ k. IsTreeShape k.shape) c.self.view_is (shape_is c.self.inside.plan.tree c.self.invariant.0)
