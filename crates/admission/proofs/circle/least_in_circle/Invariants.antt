use Rattle.std.proofs.Common.{◌≡◌, ◌≤◌, drop, length}
use Rattle.machine_model.specs.declared.blocked.Rule.TheVariants.{A2}
use Rattle.admission.proofs.Assembled.{least_by}
use Rattle.admission.proofs.WalksBack.{circle}
use Rattle.admission.proofs.circle.least_in_circle.Given as goal

abbrev pub invariant-places : goal.invariant-places
invariant-places l = record {
  within : l.place ≤ length l.holds.net;
  least : l.least ≡ least_by A2 (circle l.holds l.own (drop l.place l.holds.net));
}

abbrev pub decreases-places : goal.decreases-places
decreases-places l = l.place
