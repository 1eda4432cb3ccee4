use Rattle.std.proofs.Common.{◌≤◌, length, take}
use Rattle.schedule_model.specs.Graph.{Arrow}
use Rattle.audit_core.specs.Arrows.{HasArrows, AreShortest, IsOnWay}
use Rattle.audit_core.proofs.cycles.cycle_through.Given as goal

abbrev pub invariant-loop-left : goal.invariant-loop-left
invariant-loop-left l = record {
  within : l.left ≤ length l.layers;
  way : (arrow : Arrow) → HasArrows arrow l.rows → AreShortest arrow l.first l.layers
      → IsOnWay arrow l.first (length l.layers) (take l.left l.layers) l.last l.cycle.items;
}

abbrev pub decreases-loop-left : goal.decreases-loop-left
decreases-loop-left l = l.left
