use Rattle.std.proofs.Common.{◌≡◌, ◌≤◌, take, drop, length}
use Rattle.process_tree.specs.Conflicts.{do_conflict}
use Rattle.admission.specs.Parts.{least_fronts}
use Rattle.admission.proofs.net.least_in_front.Given as goal

abbrev pub invariant-places : goal.invariant-places
invariant-places l = record {
  within : l.place ≤ length l.holds.net;
  least : l.least ≡ least_fronts (do_conflict l.holds.conflicts) l.process (take l.place l.holds.net) (drop l.place l.holds.net);
}

abbrev pub decreases-places : goal.decreases-places
decreases-places l = l.place
