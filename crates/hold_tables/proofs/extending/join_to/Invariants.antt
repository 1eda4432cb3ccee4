use Rattle.std.proofs.Common.{List, Bool, ℕ, length}
use Rattle.process_tree.specs.Conflicts.{do_conflict}
use Rattle.process_tree.specs.Order.{Each}
use Rattle.hold_tables.specs.Counts.{HasRoomFor, IsCounted, pairs_to}
use Rattle.hold_tables.specs.Walks.{AreDistinctRows, IsExtended, IsPlaced, arrows_to}
use Rattle.hold_tables.proofs.extending.join_to.Given as goal

abbrev pub invariant-entries : goal.invariant-entries
invariant-entries l = record {
  counts : AreDistinctRows l.rows l.graph.counts;
  walks : AreDistinctRows l.rows l.graph.walks;
  entries : Each (IsPlaced l.conflicts l.rows) l.rest;
  room : HasRoomFor l.rows (pairs_to (do_conflict l.conflicts) l.rest l.e) l.graph.counts;
  counted : (new : List (List ℕ)) → IsCounted l.rows (pairs_to (do_conflict l.conflicts) l.rest l.e) l.graph.counts new
      → IsCounted l.rows (pairs_to (do_conflict l.conflicts) l.fn.entries l.e) l.fn.graph.counts new;
  extended : (new : List (List Bool)) → IsExtended l.rows (arrows_to (do_conflict l.conflicts) l.rest l.e) l.graph.walks new
      → IsExtended l.rows (arrows_to (do_conflict l.conflicts) l.entries l.e) l.fn.graph.walks new;
}

abbrev pub decreases-entries : goal.decreases-entries
decreases-entries l = length l.rest
