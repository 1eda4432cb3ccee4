use Rattle.std.proofs.Common.{List, ℕ, Bool, ◌||◌, length}
use Rattle.process_tree.specs.Conflicts.{do_conflict}
use Rattle.process_tree.specs.Order.{Each}
use Rattle.hold_tables.specs.Counts.{AreCounted, IsUncounted, pairs_to}
use Rattle.hold_tables.specs.Walks.{AreDistinctRows, IsPlaced}
use Rattle.hold_tables.proofs.uncounting.uncount_to.Given as goal

abbrev pub invariant-entries : goal.invariant-entries
invariant-entries l =
    AreDistinctRows l.rows l.counts
    × Each (IsPlaced l.conflicts l.rows) l.rest
    × AreCounted l.rows (pairs_to (do_conflict l.conflicts) l.rest l.e) l.counts
    × ((later : Bool) (new : List (List ℕ)) → IsUncounted l.rows (pairs_to (do_conflict l.conflicts) l.rest l.e) later l.counts new
    → IsUncounted l.rows (pairs_to (do_conflict l.conflicts) l.fn.entries l.e) (l.gone || later) l.fn.counts new)

abbrev pub decreases-entries : goal.decreases-entries
decreases-entries l = length l.rest
