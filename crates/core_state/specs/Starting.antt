-- How much a history has of what its limits count, as the seats tell.
use Rattle.std.specs.Prelude.{ℕ, ◌-◌, Bool, true, false, not, List, filter, length, slice_index_or, is_some}
use Rattle.schedule_model.specs.declared.event.Event.{Event}
use Rattle.schedule_model.specs.declared.event.Event.TheVariants.{Start, Act, End}
use Rattle.core_state.specs.Seats.{SeatState, no_seat}

-- whether process i is active, by the seats
abbrev pub has_active_seat : List SeatState → ℕ → Bool
has_active_seat ss i = is_some (slice_index_or ss (i - 1) no_seat).instance

-- an end, or an act of a process that isn't active, counts on its own
abbrev pub is_settled : List SeatState → Event → Bool
is_settled ss (Start i) = false
is_settled ss (Act e) = not (has_active_seat ss e.process)
is_settled ss (End i) = true

-- so many do
abbrev pub settled_count : List SeatState → List Event → ℕ
settled_count ss h = length (filter (is_settled ss) h)
