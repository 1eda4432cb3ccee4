use Rattle.std.proofs.Common.{◌≡◌, length}
use Rattle.machine_model.specs.Pieces.{hands}
use Rattle.process_core.proofs.handing.next_number.Given as goal

abbrev pub invariant-events : goal.invariant-events
invariant-events l = hands l.kept ≡ hands l.rest

abbrev pub decreases-events : goal.decreases-events
decreases-events l = length l.rest
