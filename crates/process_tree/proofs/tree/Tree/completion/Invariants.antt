use Rattle.std.proofs.Common.{◌≡◌, ◌++◌, ◌∷◌, [], length}
use Rattle.process_tree.specs.Blocks.{outline}
use Rattle.process_tree.specs.Shape.{shape_of, branch_to, next_steps, greatest, last_after}
use Rattle.process_tree.specs.Recovery.{place_of}
use Rattle.process_tree.specs.Stands.{left_from}
use Rattle.process_tree.proofs.tree.Tree.completion.Given as goal

abbrev pub invariant-loop-place : goal.invariant-loop-place
invariant-loop-place l = record {
  at : l.place ≡ place_of (greatest (next_steps (shape_of l.self) ((branch_to (shape_of l.self) l.n ++ l.n ∷ []) ++ l.places.items)));
  rest :
      l.places.items ++ last_after (shape_of l.self) ((branch_to (shape_of l.self) l.n ++ l.n ∷ []) ++ l.places.items)
      ≡ last_after (shape_of l.self) (branch_to (shape_of l.self) l.n ++ l.n ∷ []);
}

abbrev pub decreases-loop-place : goal.decreases-loop-place
decreases-loop-place l = left_from (length (outline l.self).steps) l.place
