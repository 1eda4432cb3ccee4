use Rattle.std.proofs.Common.{◌≡◌, drop}
use Rattle.std.specs.List.{filter_map}
use Rattle.process_tree.specs.Shape.{greatest}
use Rattle.process_tree.specs.Paths.{greater_of}
use Rattle.well_formed.specs.Spots.{earlier_way}
use Rattle.well_formed.proofs.flaw.way_before.Given as goal

abbrev pub invariant-loop-path : goal.invariant-loop-path
invariant-loop-path l =
    greater_of l.found (greatest (filter_map (earlier_way l.branch l.step) (drop l.path-index l.paths))) ≡ greatest (filter_map (earlier_way l.branch l.step) l.paths)
