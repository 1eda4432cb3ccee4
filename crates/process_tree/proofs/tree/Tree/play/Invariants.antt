use Rattle.std.proofs.Common.{◌≡◌, drop}
use Rattle.process_tree.specs.Shape.{shape_of}
use Rattle.process_tree.specs.Play.{stand, stand_from}
use Rattle.process_tree.specs.Stands.{stand_of, IsOpen}
use Rattle.process_tree.proofs.tree.Tree.play.Given as goal

abbrev pub invariant-loop-outcome : goal.invariant-loop-outcome
invariant-loop-outcome l = record {
  stand : stand_from (shape_of l.self) (stand_of l.done.items l.stand) (drop l.outcome-index l.outcomes) ≡ stand (shape_of l.self) l.outcomes;
  asked : IsOpen (shape_of l.self) l.done.items l.stand;
}
