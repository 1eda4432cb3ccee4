use Rattle.std.proofs.Common.{◌≡◌, ◌<◌, ◌≤◌, ◌||◌, ℕ, length, drop}
use Rattle.process_tree.specs.Conflicts.{do_conflict}
use Rattle.cascade.specs.Sets.{done, marked}
use Rattle.cascade.specs.Walking.{has_hit}
use Rattle.cascade.proofs.drag.drag_behind.Given as goal

abbrev pub invariant-places : goal.invariant-places
invariant-places l =
    (l.place < l.at) × (l.at ≤ length l.holds.net)
    × ((k : ℕ) → marked l.marks k ≡ (marked l.fn.marks k || has_hit (do_conflict l.holds.conflicts) l.x (drop l.at l.holds.net) k))
    × ((k : ℕ) → done l.marks k ≡ done l.fn.marks k)

abbrev pub decreases-places : goal.decreases-places
decreases-places l = l.at
