use Rattle.std.proofs.Common.{List, Bool, length}
use Rattle.process_tree.specs.Conflicts.{do_conflict}
use Rattle.process_tree.specs.Order.{Each}
use Rattle.hold_tables.specs.Tables.{OpenProcess}
use Rattle.hold_tables.specs.Walks.{AreDistinctRows, IsExtended, IsPlacedIf, arrows_by, steps_under_way}
use Rattle.hold_tables.proofs.reach.follow_steps.Given as goal

abbrev pub invariant-rows : goal.invariant-rows
invariant-rows l =
    AreDistinctRows l.rows l.walks
    × Each (λ (r : OpenProcess). IsPlacedIf l.conflicts l.rows r.running) l.rest
    × ((new : List (List Bool)) → IsExtended l.rows (arrows_by (do_conflict l.conflicts) l.x (steps_under_way l.rest)) l.walks new
    → IsExtended l.rows (arrows_by (do_conflict l.conflicts) l.x (steps_under_way l.rows)) l.fn.walks new)

abbrev pub decreases-rows : goal.decreases-rows
decreases-rows l = length l.rest
