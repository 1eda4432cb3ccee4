use Rattle.std.proofs.Common.{◌≡◌, ◌≤◌, drop, length}
use Rattle.std.specs.Prelude.{map}
use Rattle.process_tree.specs.Conflicts.{do_conflict}
use Rattle.hold_tables.specs.Tables.{kept_of, reserved_entry}
use Rattle.admission.specs.Least.{least_on}
use Rattle.admission.proofs.processes.least_reserved.Given as goal

abbrev pub invariant-places : goal.invariant-places
invariant-places l = record {
  within : l.place ≤ length (kept_of l.holds l.process).reserved;
  least : l.least ≡ least_on (do_conflict l.holds.conflicts) l.rule l.own (map (reserved_entry l.process) (drop l.place (kept_of l.holds l.process).reserved));
}

abbrev pub decreases-places : goal.decreases-places
decreases-places l = l.place
