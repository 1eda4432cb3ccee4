use Rattle.std.proofs.Common.{◌≡◌, length}
use Rattle.admission.specs.Admission.{victim}
use Rattle.admission.proofs.Greatest.{victim_or}
use Rattle.admission.proofs.victims.victim.Given as goal

abbrev pub invariant-blocked : goal.invariant-blocked
invariant-blocked l = victim_or l.found l.rest ≡ victim l.blocked

abbrev pub decreases-blocked : goal.decreases-blocked
decreases-blocked l = length l.rest
