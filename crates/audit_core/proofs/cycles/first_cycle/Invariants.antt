use Rattle.std.proofs.Common.{◌≡◌, ◌<◌, ◌≤◌, ℕ, List, false, length}
use Rattle.schedule_model.specs.Graph.{Arrow, leads}
use Rattle.audit_core.specs.Arrows.{HasAll, HasArrows}
use Rattle.audit_core.proofs.cycles.first_cycle.Given as goal

abbrev pub invariant-loop-first : goal.invariant-loop-first
invariant-loop-first l = (arrow : Arrow) (all : List ℕ) → HasArrows arrow l.rows → HasAll arrow all → length all ≤ l.most
    → (i : ℕ) → i < l.first → leads arrow all i i ≡ false
