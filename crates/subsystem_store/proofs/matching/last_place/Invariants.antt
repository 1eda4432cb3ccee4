use Rattle.std.proofs.Common.{◌≡◌, length}
use Rattle.subsystem_store.specs.Matching.{last_place}
use Rattle.subsystem_store.proofs.matching.last_place.Given as goal

abbrev pub invariant-places : goal.invariant-places
invariant-places l = last_place l.undo l.rest ≡ last_place l.undo l.undoable

abbrev pub decreases-places : goal.decreases-places
decreases-places l = length l.rest
