use Rattle.std.proofs.Common.{◌≡◌, drop}
use Rattle.std.specs.List.{filter_map}
use Rattle.process_tree.specs.Shape.{least}
use Rattle.process_tree.specs.Paths.{step_behind, lesser_of}
use Rattle.process_tree.proofs.ways.least_behind.Given as goal

abbrev pub invariant-loop-path : goal.invariant-loop-path
invariant-loop-path l =
    lesser_of l.found (least (filter_map (step_behind l.last) (drop l.path-index l.paths))) ≡ least (filter_map (step_behind l.last) l.paths)
