use Rattle.std.proofs.Common.{◌≡◌, drop}
use Rattle.std.specs.List.{filter_map}
use Rattle.process_tree.specs.Shape.{least}
use Rattle.process_tree.specs.Paths.{way_from, lesser_of}
use Rattle.process_tree.proofs.ways.least_way.Given as goal

abbrev pub invariant-loop-path : goal.invariant-loop-path
invariant-loop-path l =
    lesser_of l.found (least (filter_map (way_from l.fixed l.branch l.step) (drop l.path-index l.paths)))
    ≡ least (filter_map (way_from l.fixed l.branch l.step) l.paths)
