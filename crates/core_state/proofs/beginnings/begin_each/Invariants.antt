use Rattle.std.proofs.Common.{◌≡◌}
use Rattle.core_state.specs.Beginnings.{cause_of, seats_begun, tables_begun}
use Rattle.core_state.proofs.beginnings.begin_each.Given as goal

-- so it is with the first processes
abbrev pub invariant-loop-place : goal.invariant-loop-place
invariant-loop-place l =
    (l.seats.items ≡ seats_begun (cause_of l.fn.who l.fn.cascade) l.fn.event l.place l.fn.seats.items)
    × (l.holds ≡ tables_begun (cause_of l.fn.who l.fn.cascade) l.fn.seats.items l.place l.fn.holds)
