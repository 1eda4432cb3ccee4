-- Moments: what the machine tells at the moment of a core.
use Rattle.std.specs.Prelude.{ℕ, Bool, List, Option, find}
use Rattle.std.specs.List.{slice_get}
use Rattle.std.specs.Option.{option_map}
use Rattle.process_tree.specs.declared.plan.Plan.{Plan}
use Rattle.process_tree.specs.declared.play.Outcome.{Outcome}
use Rattle.schedule_model.specs.Course.{course_of}
use Rattle.schedule_model.specs.Histories.{is_in, starts}
use Rattle.machine_model.specs.declared.kept.Kept.{Kept}
use Rattle.machine_model.specs.declared.replies.Aborted.{Aborted}
use Rattle.machine_model.specs.declared.replies.StartWhy.{StartWhy}
use Rattle.machine_model.specs.CallLaws.{IsStuck}
use Rattle.machine_model.specs.Replies.{Admit, Finish, Handed, Next, BlockedProcess, abort_reply, admit_reply, all_victims}
use Rattle.machine_model.specs.Replies.{blocked_in_rotation, finish_reply, hand_to, none_free_reply, piece_unless, rotation}
use Rattle.machine_model.specs.Moment.{has_begun}
use Rattle.machine_model.specs.Runs.{may_be_kept, start_refusal}
use Rattle.machine_model.specs.State.{block_of, is_free, undo_next, victim_of}
use Rattle.core_state.specs.Cores.{CoreState, courses_in, moment_of, relation}
use Rattle.core_state.specs.Seats.{SeatState, seat_of}
use Rattle.process_core.specs.Rotation.{can_be_victim}

-- whether process i started in this core
abbrev pub has_started_in : CoreState → ℕ → Bool
has_started_in c i = is_in i (starts (moment_of c).events)

-- the seat of process i
abbrev pub seat_in : CoreState → ℕ → SeatState
seat_in c i = seat_of (courses_in c) (moment_of c) i

-- whether the core may keep this event next
abbrev pub may_keep : CoreState → Kept → Bool
may_keep c kept = may_be_kept (relation c) (courses_in c) (moment_of c) kept

-- the reply to a request for a piece of process i
abbrev pub reply_in : CoreState → ℕ → Admit
reply_in c i = admit_reply (relation c) (courses_in c) (moment_of c) i

-- the same of a process whose next piece may be tried: it is handed out, unless it is blocked
abbrev pub piece_or_block_in : CoreState → ℕ → Admit
piece_or_block_in c i = piece_unless (courses_in c) (moment_of c) i (block_of (relation c) (courses_in c) (moment_of c) i)

-- the first process in rotation whose piece is free
abbrev pub first_free_in : CoreState → Option ℕ
first_free_in c = find (is_free (relation c) (courses_in c) (moment_of c)) (rotation (moment_of c) c.served)

-- its piece
abbrev pub free_piece_in : CoreState → Option Handed
free_piece_in c = option_map (hand_to (courses_in c) (moment_of c)) (first_free_in c)

-- the first blocked process in rotation
abbrev pub first_blocked_in : CoreState → Option BlockedProcess
first_blocked_in c = slice_get (blocked_in_rotation (relation c) (courses_in c) (moment_of c) c.served) 0

-- the reply to a request for any piece, where none is free
abbrev pub none_free_in : CoreState → Next
none_free_in c = none_free_reply (relation c) (courses_in c) (moment_of c) c.served

-- the victim, where the processes are stalled
abbrev pub victim_in : CoreState → Option ℕ
victim_in c = victim_of (relation c) (courses_in c) (moment_of c)

-- what is kept of all victims until a piece is free or none is left
abbrev pub victims_in : CoreState → List Kept
victims_in c = all_victims (relation c) (courses_in c) (moment_of c)

-- whether process i is blocked and has not begun to complete
abbrev pub can_be_victim_in : CoreState → ℕ → Bool
can_be_victim_in c i = can_be_victim (has_begun (moment_of c) i) (reply_in c i)

-- why a process of this plan may not start
abbrev pub refusal_in : CoreState → Plan → Option StartWhy
refusal_in c p = start_refusal (courses_in c) (moment_of c) (course_of p)

-- the reply to the finish of piece n with this outcome
abbrev pub finish_reply_in : CoreState → ℕ → Outcome → Finish
finish_reply_in c n outcome = finish_reply (relation c) (courses_in c) (moment_of c) n outcome

-- the reply to a request that process i complete
abbrev pub abort_reply_in : CoreState → ℕ → Aborted
abort_reply_in c i = abort_reply (courses_in c) (moment_of c) i

-- the process of the last pending entry in joint order
abbrev pub undo_next_in : CoreState → Option ℕ
undo_next_in c = undo_next (courses_in c) (moment_of c)

-- process i is stuck
abbrev pub IsStuckIn : CoreState → ℕ → Type 0
IsStuckIn c i = IsStuck (relation c) (courses_in c) (moment_of c) i
