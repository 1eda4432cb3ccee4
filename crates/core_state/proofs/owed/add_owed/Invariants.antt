use Rattle.std.proofs.Common.{◌≡◌, ◌++◌, length, map}
use Rattle.process_tree.specs.Blocks.{outline}
use Rattle.process_tree.specs.Stands.{left_from}
use Rattle.admission.specs.Parts.{steps_from}
use Rattle.admission.proofs.LastWays.{IsOfTree}
use Rattle.core_state.specs.OpenTables.{planned_behind, planned_step}
use Rattle.core_state.proofs.owed.add_owed.Given as goal

abbrev pub invariant-owed : goal.invariant-owed
invariant-owed l = record {
  within : IsOfTree l.plan.tree l.place;
  planned : l.planned.items ++ map (planned_step l.plan) (steps_from l.plan l.place) ≡ l.fn.planned.items ++ planned_behind l.plan l.step;
}

abbrev pub decreases-owed : goal.decreases-owed
decreases-owed l = left_from (length (outline l.plan.tree).steps) l.place
