use Rattle.std.proofs.Common.{◌≡◌, ◌≤◌, length, take}
use Rattle.hold_tables.specs.Places.{last_place}
use Rattle.cascade.proofs.undo.last_place.Given as goal

abbrev pub invariant-places : goal.invariant-places
invariant-places l = (l.place ≤ length l.holds.net) × (last_place l.process (take l.place l.holds.net) ≡ last_place l.process l.holds.net)

abbrev pub decreases-places : goal.decreases-places
decreases-places l = l.place
