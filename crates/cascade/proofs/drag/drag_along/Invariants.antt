use Rattle.std.proofs.Common.{◌≡◌, ◌≤◌, ◌-◌, ◌||◌, ℕ, length, drop}
use Rattle.process_tree.specs.Conflicts.{do_conflict}
use Rattle.cascade.specs.Sets.{done, marked}
use Rattle.cascade.specs.Walking.{drags_from}
use Rattle.cascade.proofs.drag.drag_along.Given as goal

abbrev pub invariant-places : goal.invariant-places
invariant-places l =
    (l.place ≤ length l.holds.net)
    × ((k : ℕ) → (marked l.marks k || drags_from (do_conflict l.holds.conflicts) l.running l.process l.left (drop l.place l.holds.net) k)
    ≡ (marked l.fn.marks k || drags_from (do_conflict l.holds.conflicts) l.running l.process l.stay l.holds.net k))
    × ((k : ℕ) → done l.marks k ≡ done l.fn.marks k)

abbrev pub decreases-places : goal.decreases-places
decreases-places l = length l.holds.net - l.place
