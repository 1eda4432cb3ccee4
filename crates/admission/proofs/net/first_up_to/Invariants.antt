use Rattle.std.proofs.Common.{◌<◌, ◌≤◌, ◌-◌, take, drop}
use Rattle.process_tree.specs.Order.{Each}
use Rattle.admission.proofs.net.first_up_to.Given as goal

abbrev pub invariant-places : goal.invariant-places
invariant-places l = record {
  after : l.from ≤ l.place;
  before : l.place ≤ l.end;
  passed : Each (λ e. l.most < e.process) (drop l.from (take l.place l.holds.net));
}

abbrev pub decreases-places : goal.decreases-places
decreases-places l = l.end - l.place
