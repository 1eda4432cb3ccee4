use Rattle.std.proofs.Common.{◌≡◌, length}
use Rattle.std.specs.Prelude.{nat_eq}
use Rattle.std.specs.List.{filter_map, list_any}
use Rattle.process_tree.specs.Shape.{shape_of, goes_on_to}
use Rattle.history_judging.specs.Judging.{step_on}
use Rattle.history_judging.proofs.order.goes_on_to.Given as goal

abbrev pub invariant-loop-rest : goal.invariant-loop-rest
invariant-loop-rest l = list_any (nat_eq l.step) (filter_map (step_on l.done) l.rest) ≡ goes_on_to (shape_of l.tree) l.done l.step

abbrev pub decreases-loop-rest : goal.decreases-loop-rest
decreases-loop-rest l = length l.rest
