use Rattle.std.proofs.Common.{◌≡◌, ◌≤◌, ◌-◌, take, drop}
use Rattle.process_tree.specs.Conflicts.{do_conflict}
use Rattle.admission.specs.Least.{least_on, lesser_of}
use Rattle.admission.proofs.net.least_between.Given as goal

abbrev pub invariant-places : goal.invariant-places
invariant-places l = record {
  after : l.from ≤ l.place;
  before : l.place ≤ l.end;
  least : l.least ≡ lesser_of (least_on (do_conflict l.holds.conflicts) l.rule l.own (drop l.from (take l.place l.holds.net))) l.fn.found;
}

abbrev pub decreases-places : goal.decreases-places
decreases-places l = l.end - l.place
