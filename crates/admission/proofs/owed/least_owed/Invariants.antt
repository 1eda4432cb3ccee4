use Rattle.std.proofs.Common.{◌≡◌, length}
use Rattle.process_tree.specs.Blocks.{outline}
use Rattle.process_tree.specs.Stands.{left_from}
use Rattle.admission.specs.Admission.{steps_owed_after}
use Rattle.admission.specs.Least.{lesser_of}
use Rattle.admission.specs.Parts.{least_against_steps, steps_from}
use Rattle.admission.proofs.LastWays.{IsOfTree}
use Rattle.admission.proofs.owed.least_owed.Given as goal

abbrev pub invariant-owed : goal.invariant-owed
invariant-owed l = record {
  within : IsOfTree l.plan.tree l.place;
  least : lesser_of l.least (least_against_steps l.holds l.plan l.process (steps_from l.plan l.place)) ≡ lesser_of l.fn.found (least_against_steps l.holds l.plan l.process (steps_owed_after l.plan l.step));
}

abbrev pub decreases-owed : goal.decreases-owed
decreases-owed l = left_from (length (outline l.plan.tree).steps) l.place
