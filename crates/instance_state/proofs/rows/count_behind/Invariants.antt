use Rattle.std.proofs.Common.{◌++◌, ◌∷◌, [], length}
use Rattle.process_tree.specs.Blocks.{outline}
use Rattle.process_tree.specs.Shape.{shape_of, branch_to}
use Rattle.process_tree.specs.Stands.{left_from}
use Rattle.instance_state.proofs.CountedSteps.{CountsTo}
use Rattle.instance_state.proofs.rows.count_behind.Given as goal

-- the place follows the steps that were counted
abbrev pub invariant-behind : goal.invariant-behind
invariant-behind l = CountsTo (shape_of l.tree) (branch_to (shape_of l.tree) l.step ++ l.step ∷ []) l.count l.place

abbrev pub decreases-behind : goal.decreases-behind
decreases-behind l = left_from (length (outline l.tree).steps) l.place
