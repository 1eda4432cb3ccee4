use Rattle.std.proofs.Common.{◌≡◌, length}
use Rattle.process_tree.specs.Order.{Each}
use Rattle.hold_tables.specs.Tables.{OpenProcess, running_of}
use Rattle.hold_tables.specs.Kept.{IsKnownRunning}
use Rattle.hold_tables.specs.Reading.{access_sought, is_against, least_step}
use Rattle.std.specs.Prelude.{filter, flat_map}
use Rattle.hold_tables.proofs.against.least_running.Given as goal

abbrev pub invariant-rows : goal.invariant-rows
invariant-rows l =
    Each (λ (r : OpenProcess). IsKnownRunning l.c r.running) l.rest
    × (least_step l.least (filter (is_against l.c l.sought.process (access_sought l.sought)) (flat_map running_of l.rest)) ≡ least_step l.fn.other (filter (is_against l.c l.sought.process (access_sought l.sought)) (flat_map running_of l.rows)))

abbrev pub decreases-rows : goal.decreases-rows
decreases-rows l = length l.rest
