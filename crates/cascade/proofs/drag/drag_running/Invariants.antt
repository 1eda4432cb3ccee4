use Rattle.std.proofs.Common.{◌≡◌, ◌||◌, ℕ, length}
use Rattle.process_tree.specs.Conflicts.{do_conflict}
use Rattle.process_tree.specs.Order.{Each}
use Rattle.cascade.specs.Sets.{done, marked}
use Rattle.cascade.specs.Walking.{IsWithin, has_hit}
use Rattle.cascade.proofs.drag.drag_running.Given as goal

abbrev pub invariant-entries : goal.invariant-entries
invariant-entries l =
    Each (IsWithin l.conflicts (length l.marks)) l.rest
    × ((k : ℕ) → (marked l.marks k || has_hit (do_conflict l.conflicts) l.x l.rest k) ≡ (marked l.fn.marks k || has_hit (do_conflict l.conflicts) l.x l.running k))
    × ((k : ℕ) → done l.marks k ≡ done l.fn.marks k)

abbrev pub decreases-entries : goal.decreases-entries
decreases-entries l = length l.rest
