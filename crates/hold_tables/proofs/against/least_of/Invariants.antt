use Rattle.std.proofs.Common.{◌≡◌, length}
use Rattle.process_tree.specs.Order.{Each}
use Rattle.hold_tables.specs.Kept.{IsKnown}
use Rattle.hold_tables.specs.Reading.{access_sought, is_against, least_step}
use Rattle.std.specs.Prelude.{filter}
use Rattle.hold_tables.proofs.against.least_of.Given as goal

abbrev pub invariant-entries : goal.invariant-entries
invariant-entries l =
    Each (IsKnown l.c) l.rest
    × (least_step l.least (filter (is_against l.c l.sought.process (access_sought l.sought)) (l.rest)) ≡ least_step l.fn.other (filter (is_against l.c l.sought.process (access_sought l.sought)) (l.entries)))

abbrev pub decreases-entries : goal.decreases-entries
decreases-entries l = length l.rest
