use Rattle.std.proofs.Common.{◌≡◌, ◌≤◌, drop, length}
use Rattle.admission.specs.Parts.{further, place_of_step}
use Rattle.admission.proofs.net.place_of_step.Given as goal

abbrev pub invariant-places : goal.invariant-places
invariant-places l = record {
  within : l.place ≤ length l.holds.net;
  found : l.found ≡ further l.place (place_of_step l.process l.step (drop l.place l.holds.net));
}

abbrev pub decreases-places : goal.decreases-places
decreases-places l = l.place
