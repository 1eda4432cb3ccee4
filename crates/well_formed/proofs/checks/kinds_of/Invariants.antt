use Rattle.std.proofs.Common.{◌≡◌, take}
use Rattle.process_tree.specs.Shape.{shape_of}
use Rattle.well_formed.proofs.checks.kinds_of.Given as goal

abbrev pub invariant-loop-step : goal.invariant-loop-step
invariant-loop-step l = l.kinds.items ≡ take l.step (shape_of l.tree).kinds
