use Rattle.std.proofs.Common.{◌≡◌, drop}
use Rattle.std.specs.List.{filter_map}
use Rattle.process_tree.specs.Shape.{greatest}
use Rattle.process_tree.specs.Paths.{step_behind, greater_of}
use Rattle.process_tree.proofs.ways.greatest_behind.Given as goal

abbrev pub invariant-loop-path : goal.invariant-loop-path
invariant-loop-path l =
    greater_of l.found (greatest (filter_map (step_behind l.last) (drop l.path-index l.paths))) ≡ greatest (filter_map (step_behind l.last) l.paths)
