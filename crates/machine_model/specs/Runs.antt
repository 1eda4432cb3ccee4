-- Runs: which event may be kept next, and the sessions in which each was.
use Rattle.std.specs.Prelude.{ℕ, ◌+◌, Bool, true, false, not, ◌&&◌, List, [], ◌∷◌, length, nat_eq, nat_le, nat_lt, Option, Some}
use Rattle.std.specs.Prelude.{None, is_none}
use Rattle.std.specs.List.{list_any}
use Rattle.schedule_model.specs.declared.event.Event.{Event}
use Rattle.schedule_model.specs.declared.event.Event.TheVariants.{Start as Started}
use Rattle.schedule_model.specs.Course.{Course, course}
use Rattle.schedule_model.specs.Conflict.{ConflictRelation}
use Rattle.schedule_model.specs.Histories.{active, is_active, starts}
use Rattle.schedule_model.specs.Limits.{entries, need, most_active, most_processes, most_entries}
use Rattle.schedule_model.specs.OwnOrder.{keeps_order}
use Rattle.machine_model.specs.declared.kept.Work.TheVariants.{End}
use Rattle.machine_model.specs.declared.kept.Kept.{Kept}
use Rattle.machine_model.specs.declared.kept.Kept.TheVariants.{Start, Hand, Effect, Refuse, Abort, Victim, Restart}
use Rattle.machine_model.specs.declared.replies.StartWhy.{StartWhy}
use Rattle.machine_model.specs.declared.replies.StartWhy.TheVariants.{TooMany, NoRoom}
use Rattle.machine_model.specs.Moment.{Moment, Piece, opening_moment, has_begun}
use Rattle.machine_model.specs.Pieces.{hands, piece_of, runs}
use Rattle.machine_model.specs.Progress.{same_work}
use Rattle.machine_model.specs.State.{next_of, is_exhausted, is_free, victim_of}
use Rattle.machine_model.specs.Advance.{Machine, advance, advance_all}

-- too many entries, done and reserved, or none
abbrev pub no_room : ℕ → Bool → Option StartWhy
no_room n true = Some (NoRoom n)
no_room n false = None

-- too many processes have started; else the next reason
abbrev pub too_many_started : List Course → Moment → Course → Bool → Option StartWhy
too_many_started courses m c true = Some (TooMany most_processes)
too_many_started courses m c false = let n = entries courses m.events + need c in no_room n (nat_lt most_entries n)

-- too many are active; else the next reason
abbrev pub too_many_active : List Course → Moment → Course → Bool → Option StartWhy
too_many_active courses m c true = Some (TooMany most_active)
too_many_active courses m c false = too_many_started courses m c (nat_le most_processes (length (starts m.events)))

-- why a process of this course can't start now, if it can't
abbrev pub start_refusal : List Course → Moment → Course → Option StartWhy
start_refusal courses m c = too_many_active courses m c (nat_le most_active (length (active m.events)))

-- a start takes the next number, within the limits
abbrev pub may_start : List Course → Moment → ℕ → Bool
may_start courses m i = keeps_order courses m.events (Started i) && is_none (start_refusal courses m (course courses i))

-- a piece is handed out with the next number, to a free process, and is its next piece
abbrev pub may_hand : ConflictRelation → List Course → Moment → Piece → Bool
may_hand table courses m p =
    nat_eq p.number (length (hands m.kept) + 1) && is_free table courses m p.process
    && same_work p.work (next_of courses m p.process).work && nat_eq p.step (next_of courses m p.process).step

-- there is a piece, and it is no end
abbrev pub is_no_end : Option Piece → Bool
is_no_end None = false
is_no_end (Some p) = not (same_work p.work End)

-- a running piece is refused, if it is no end
abbrev pub may_refuse : Moment → ℕ → Bool
may_refuse m n = runs m n && is_no_end (piece_of m.kept n)

-- process i is asked to complete: it is active, has not begun to, and isn't exhausted
abbrev pub may_abort : List Course → Moment → ℕ → Bool
may_abort courses m i = is_active m.events i && not (is_exhausted courses m i) && not (has_begun m i)

-- process i is that one
abbrev pub is_victim : ℕ → Option ℕ → Bool
is_victim i None = false
is_victim i (Some k) = nat_eq i k

-- the event may be kept next
abbrev pub may_be_kept : ConflictRelation → List Course → Moment → Kept → Bool
may_be_kept table courses m (Start i) = may_start courses m i
may_be_kept table courses m (Hand piece process step work) =
    may_hand table courses m (record { number = piece; process = process; step = step; work = work })
may_be_kept table courses m (Effect n) = runs m n
may_be_kept table courses m (Refuse n) = may_refuse m n
may_be_kept table courses m (Abort i) = may_abort courses m i
may_be_kept table courses m (Victim i) = is_victim i (victim_of table courses m)
may_be_kept table courses m Restart = list_any (λ i. not (has_begun m i)) (active m.events)

-- each of these may be kept after those before it
abbrev pub goes_on_from : ConflictRelation → List Course → Moment → List Kept → Bool
goes_on_from table courses m [] = true
goes_on_from table courses m (k ∷ ks) = may_be_kept table courses m k && goes_on_from table courses (advance table courses m k) ks

-- a session is a run where each of its events may be kept after those before it
abbrev pub is_run : ConflictRelation → Machine → Bool
is_run table s = goes_on_from table s.courses (opening_moment s.opening) s.kept

-- the moment to which a session has come
abbrev pub now : ConflictRelation → Machine → Moment
now table s = advance_all table s.courses (opening_moment s.opening) s.kept

-- its history
abbrev pub history : ConflictRelation → Machine → List Event
history table s = (now table s).events
