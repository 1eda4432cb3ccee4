use Rattle.std.proofs.Common.{◌≡◌, ◌≤◌, drop, length}
use Rattle.admission.specs.Least.{least_over}
use Rattle.admission.specs.Parts.{least_of_process}
use Rattle.admission.proofs.processes.least_of_all.Given as goal

abbrev pub invariant-places : goal.invariant-places
invariant-places l = record {
  within : l.place ≤ length l.holds.processes;
  least : l.least ≡ least_over (least_of_process l.holds l.sought l.own) (drop l.place l.holds.processes);
}

abbrev pub decreases-places : goal.decreases-places
decreases-places l = l.place
