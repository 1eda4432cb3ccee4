use Rattle.std.proofs.Common.{◌<◌, ◌+◌, ◌-◌, ℕ, List, length}
use Rattle.schedule_model.specs.Graph.{Arrow}
use Rattle.dependence_model.specs.Audited.{ComesBack}
use Rattle.audit_core.specs.Arrows.{HasArrows, IsLayer, AreLayers}
use Rattle.audit_core.proofs.cycles.layers_of.Given as goal

abbrev pub invariant-loop-last : goal.invariant-loop-last
invariant-loop-last l = (arrow : Arrow) → HasArrows arrow l.rows → record {
  layers : AreLayers arrow l.first 0 l.layers.items;
  last : IsLayer arrow l.first (length l.layers.items) l.last;
  none : (ks : List ℕ) → length ks < length l.layers.items → ComesBack arrow l.first l.first ks → ⊥;
}

abbrev pub decreases-loop-last : goal.decreases-loop-last
decreases-loop-last l = l.most + 1 - length l.layers.items
