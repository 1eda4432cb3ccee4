use Rattle.std.proofs.Common.{◌≡◌, length}
use Rattle.hold_tables.specs.Places.{last_place}
use Rattle.hold_tables.proofs.looking.last_place.Given as goal

abbrev pub invariant-places : goal.invariant-places
invariant-places l = last_place l.process l.rest ≡ last_place l.process l.net

abbrev pub decreases-places : goal.decreases-places
decreases-places l = length l.rest
