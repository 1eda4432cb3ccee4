use Rattle.std.proofs.Common.{◌≡◌, length}
use Rattle.process_tree.specs.Blocks.{outline}
use Rattle.process_tree.specs.Shape.{shape_of}
use Rattle.process_tree.specs.Stands.{arrive_at, IsNext, left_from}
use Rattle.process_tree.proofs.turns.come_to.Given as goal

abbrev pub invariant-loop-at : goal.invariant-loop-at
invariant-loop-at l = record {
  comes : arrive_at (shape_of l.tree) l.done.items l.at ≡ arrive_at (shape_of l.tree) l.initial.done.items l.fn.place;
  next : IsNext (shape_of l.tree) l.done.items l.at;
}

abbrev pub decreases-loop-at : goal.decreases-loop-at
decreases-loop-at l = left_from (length (outline l.tree).steps) l.at
