use Rattle.std.proofs.Common.{◌≡◌, length}
use Rattle.hold_tables.specs.Tables.{reserved_entry}
use Rattle.hold_tables.specs.Kept.{AreKnown}
use Rattle.hold_tables.specs.Reading.{access_sought, is_against, least_step}
use Rattle.std.specs.Prelude.{filter, map}
use Rattle.hold_tables.proofs.against.least_of_steps.Given as goal

abbrev pub invariant-steps : goal.invariant-steps
invariant-steps l =
    AreKnown l.c l.rest
    × (least_step l.least (filter (is_against l.c l.sought.process (access_sought l.sought)) (map (reserved_entry l.process) l.rest)) ≡ least_step l.fn.other (filter (is_against l.c l.sought.process (access_sought l.sought)) (map (reserved_entry l.process) l.steps)))

abbrev pub decreases-steps : goal.decreases-steps
decreases-steps l = length l.rest
