use Rattle.std.proofs.Common.{◌≡◌, ◌<◌, ◌≤◌, length, drop, filter, None}
use Rattle.process_tree.specs.Conflicts.{do_conflict}
use Rattle.schedule_model.specs.Conflict.{conflict}
use Rattle.hold_tables.specs.Reading.{least_step}
use Rattle.cascade.proofs.undo.least_behind.Given as goal

abbrev pub invariant-places : goal.invariant-places
invariant-places l =
    (l.place < l.at) × (l.at ≤ length l.holds.net)
    × (l.least ≡ least_step None (filter (conflict (do_conflict l.holds.conflicts) l.x) (drop l.at l.holds.net)))

abbrev pub decreases-places : goal.decreases-places
decreases-places l = l.at
