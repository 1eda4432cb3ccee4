-- What remains of a history without the processes that have ended, and the numbers that the others have from then on.
use Rattle.std.specs.Prelude.{ℕ, zero, suc, ◌+◌, ◌-◌, Bool, not, ◌||◌, List, [], ◌∷◌, ◌++◌, length, map, filter, drop, nat_eq, nat_lt}
use Rattle.std.specs.Prelude.{if◌then◌else◌}
use Rattle.process_tree.specs.declared.entry.Entry.{Entry}
use Rattle.schedule_model.specs.declared.event.Event.{Event}
use Rattle.schedule_model.specs.declared.event.Event.TheVariants.{Start, Act, End}
use Rattle.schedule_model.specs.Course.{Course, course}
use Rattle.schedule_model.specs.Histories.{active, ends, is_in, starts}

-- the process that an event is of
abbrev pub process_of : Event → ℕ
process_of (Start i) = i
process_of (Act e) = e.process
process_of (End i) = i

-- the events of the processes that pass
abbrev pub events_of : (ℕ → Bool) → List Event → List Event
events_of passes h = filter (λ e. passes (process_of e)) h

-- a process hasn't ended
abbrev pub is_open : List Event → ℕ → Bool
is_open h i = not (is_in i (ends h))

-- an entry whose process has another number
abbrev pub renumbered_entry : (ℕ → ℕ) → Entry → Entry
renumbered_entry number e = record { process = number e.process; step = e.step; op = e.op; key = e.key; undo = e.undo }

-- an event whose process has another number
abbrev pub renumbered_event : (ℕ → ℕ) → Event → Event
renumbered_event number (Start i) = Start (number i)
renumbered_event number (Act e) = Act (renumbered_entry number e)
renumbered_event number (End i) = End (number i)

-- events whose processes have other numbers
abbrev pub renumbered : (ℕ → ℕ) → List Event → List Event
renumbered number h = map (renumbered_event number) h

-- the number that the process at place k had, from 0 on: the carried processes come first, in order, and then those that start
-- after the first `before`
abbrev pub carried_at : List ℕ → ℕ → ℕ → ℕ
carried_at [] before k = before + suc k
carried_at (i ∷ is) before zero = i
carried_at (i ∷ is) before (suc k) = carried_at is before k

-- where process i stands among these, from 0 on
abbrev pub place_among : List ℕ → ℕ → ℕ → ℕ
place_among [] before i = i - suc before
place_among (c ∷ cs) before i = if nat_eq i c then zero else suc (place_among cs before i)

-- the number that process k had before; processes count from 1, and there is no process 0
abbrev pub old_number : List ℕ → ℕ → ℕ → ℕ
old_number carried before zero = zero
old_number carried before (suc k) = carried_at carried before k

-- the number that process i has from then on, where it is carried or started later
abbrev pub new_number : List ℕ → ℕ → ℕ → ℕ
new_number carried before i = if is_in i carried || nat_lt before i then suc (place_among carried before i) else zero

-- the number that process k had in h
abbrev pub number_in : List Event → ℕ → ℕ
number_in h k = old_number (active h) (length (starts h)) k

-- the number of process i of h from then on
abbrev pub number_since : List Event → ℕ → ℕ
number_since h i = new_number (active h) (length (starts h)) i

-- what remains of h: the events of those that haven't ended, which have the numbers from 1 on, in order
abbrev pub remaining : List Event → List Event
remaining h = renumbered (number_since h) (events_of (is_open h) h)

-- the courses that remain: those of the active processes, and those of the processes that start later
abbrev pub courses_left : List Course → List Event → List Course
courses_left courses h = map (course courses) (active h) ++ drop (length (starts h)) courses

-- what was said later, with the numbers that the processes had in h
abbrev pub as_before : List Event → List Event → List Event
as_before h u = renumbered (number_in h) u

-- what is said later, with the numbers that the processes have from then on
abbrev pub as_since : List Event → List Event → List Event
as_since h u = renumbered (number_since h) u

-- entries, with the numbers that the processes had in h
abbrev pub entries_before : List Event → List Entry → List Entry
entries_before h es = map (renumbered_entry (number_in h)) es
