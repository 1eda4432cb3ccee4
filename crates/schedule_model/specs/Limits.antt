-- The limits of a history: how many processes it may have, and how many entries.
use Rattle.std.specs.Prelude.{ℕ, ◌+◌, ◌-◌, ◌*◌, Bool, true, ◌&&◌, List, [], ◌∷◌, ◌++◌, length, nat_le}
use Rattle.std.specs.List.{sum_by}
use Rattle.schedule_model.specs.declared.event.Event.{Event}
use Rattle.schedule_model.specs.declared.event.Event.TheVariants.{Start, Act, End}
use Rattle.schedule_model.specs.Course.{Course, course}
use Rattle.schedule_model.specs.EachEvent.{each_passes}
use Rattle.schedule_model.specs.Histories.{acts, active, ends, of_process, starts}

-- how many processes may be active at once
abbrev pub most_active : ℕ
most_active = 256

-- how many may start
abbrev pub most_processes : ℕ
most_processes = 4096

-- how many acts and ends there may be, done and reserved
abbrev pub most_entries : ℕ
most_entries = 16384

-- what a process may need at most: a step and its undo for each activity, and its end
abbrev pub need : Course → ℕ
need c = 2 * length c.ops + 1

-- what an active process may still need
abbrev pub still_needed : List Course → List Event → ℕ → ℕ
still_needed courses h i = need (course courses i) - length (of_process i (acts h))

-- the acts and ends of a history, done and reserved
abbrev pub entries : List Course → List Event → ℕ
entries courses h = length (acts h) + length (ends h) + sum_by (still_needed courses h) (active h)

-- what a history may have at most
pub record Limits : Type 0 where
  pub active : ℕ
  pub processes : ℕ
  pub entries : ℕ

abbrev pub limits : Limits
limits = record { active = most_active; processes = most_processes; entries = most_entries }

-- at this moment no more are active, have started, and are done and reserved
abbrev pub stands_within : Limits → List Course → List Event → Bool
stands_within l courses h =
    nat_le (length (active h)) l.active && nat_le (length (starts h)) l.processes && nat_le (entries courses h) l.entries

-- a start is within limits where what it makes is; no other event is judged
abbrev pub starts_within : Limits → List Course → List Event → Event → Bool
starts_within l courses h (Start i) = stands_within l courses (h ++ Start i ∷ [])
starts_within l courses h (Act e) = true
starts_within l courses h (End i) = true

-- a history is within limits where each of its starts is
abbrev pub keeps_limits : Limits → List Course → List Event → Bool
keeps_limits l courses h = each_passes (starts_within l courses) [] h

-- the same of the limits of histories
abbrev pub is_within_limits : List Course → List Event → Bool
is_within_limits courses h = keeps_limits limits courses h
