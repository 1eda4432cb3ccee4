use Rattle.std.proofs.Common.{◌≡◌, ◌+◌, ◌≤◌, drop, length}
use Rattle.process_tree.specs.Conflicts.{do_conflict}
use Rattle.schedule_model.specs.Histories.{of_process}
use Rattle.machine_model.specs.declared.blocked.Rule.TheVariants.{A1}
use Rattle.hold_tables.specs.Tables.{kept_of}
use Rattle.admission.specs.Least.{least_on}
use Rattle.admission.proofs.processes.least_pending.Given as goal

abbrev pub invariant-places : goal.invariant-places
invariant-places l = record {
  within : l.place ≤ length l.holds.net;
  left : l.left + length (of_process l.process (drop l.place l.holds.net)) ≡ (kept_of l.holds l.process).pending;
  least : l.least ≡ least_on (do_conflict l.holds.conflicts) A1 l.own (of_process l.process (drop l.place l.holds.net));
}

abbrev pub decreases-places : goal.decreases-places
decreases-places l = l.place
