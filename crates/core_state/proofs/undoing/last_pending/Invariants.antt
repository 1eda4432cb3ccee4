use Rattle.std.proofs.Common.{◌≡◌, ◌≤◌, length, take}
use Rattle.core_state.specs.OpenTables.{last_pending}
use Rattle.core_state.proofs.undoing.last_pending.Given as goal

-- no entry behind this place is of a process that has something to undo
abbrev pub invariant-entries : goal.invariant-entries
invariant-entries l = (last_pending l.holds (take l.count l.holds.net) ≡ last_pending l.holds l.holds.net) × (l.count ≤ length l.holds.net)

abbrev pub decreases-entries : goal.decreases-entries
decreases-entries l = l.count
