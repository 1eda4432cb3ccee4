use Rattle.std.proofs.Common.{List, ℕ, length}
use Rattle.process_tree.specs.Conflicts.{do_conflict}
use Rattle.process_tree.specs.Order.{Each}
use Rattle.hold_tables.specs.Counts.{HasRoomFor, IsCounted, pairs_by}
use Rattle.hold_tables.specs.Tables.{OpenProcess}
use Rattle.hold_tables.specs.Walks.{AreDistinctRows, IsPlacedIf, steps_under_way}
use Rattle.hold_tables.proofs.counting.count_steps.Given as goal

abbrev pub invariant-rows : goal.invariant-rows
invariant-rows l =
    AreDistinctRows l.rows l.counts
    × Each (λ (r : OpenProcess). IsPlacedIf l.conflicts l.rows r.running) l.rest
    × HasRoomFor l.rows (pairs_by (do_conflict l.conflicts) l.x (steps_under_way l.rest)) l.counts
    × ((new : List (List ℕ)) → IsCounted l.rows (pairs_by (do_conflict l.conflicts) l.x (steps_under_way l.rest)) l.counts new
    → IsCounted l.rows (pairs_by (do_conflict l.conflicts) l.x (steps_under_way l.rows)) l.fn.counts new)

abbrev pub decreases-rows : goal.decreases-rows
decreases-rows l = length l.rest
