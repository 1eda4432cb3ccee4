-- Replies: what each call of the machine answers at a moment.
use Rattle.std.specs.Prelude.{Bool, true, false, ℕ, zero, suc, ◌+◌, ◌&&◌, List, [], ◌∷◌, ◌++◌, filter, find, length, nat_eq, nat_le}
use Rattle.std.specs.Prelude.{nat_lt, if◌then◌else◌, Option, Some, None, is_some, is_none, unwrap_or}
use Rattle.std.specs.List.{filter_map, slice_get}
use Rattle.std.specs.Option.{option_map}
use Rattle.process_tree.specs.declared.play.Outcome.{Outcome}
use Rattle.process_tree.specs.declared.play.Outcome.TheVariants.{Done, Refused}
use Rattle.process_tree.specs.Shape.{least}
use Rattle.schedule_model.specs.Course.{Course, allowance}
use Rattle.schedule_model.specs.Conflict.{ConflictRelation}
use Rattle.schedule_model.specs.Histories.{active, is_active, is_in, starts}
use Rattle.machine_model.specs.declared.blocked.Blocked.{Blocked}
use Rattle.machine_model.specs.declared.kept.Work.{Work}
use Rattle.machine_model.specs.declared.kept.Work.TheVariants.{Forward, Undo, End}
use Rattle.machine_model.specs.declared.kept.Kept.{Kept}
use Rattle.machine_model.specs.declared.kept.Kept.TheVariants.{Hand, Effect, Refuse, Victim}
use Rattle.machine_model.specs.declared.replies.Aborted.{Aborted}
use Rattle.machine_model.specs.declared.replies.Aborted.TheVariants.{Ok, Unknown, Ended, Exhausted, Already}
use Rattle.machine_model.specs.declared.replies.Refusal.{Refusal}
use Rattle.machine_model.specs.declared.replies.PieceState.{PieceState}
use Rattle.machine_model.specs.declared.replies.PieceState.TheVariants.{Out, Dropped, Over}
use Rattle.machine_model.specs.Progress.{Task, same_work}
use Rattle.machine_model.specs.ProcessState.{refusal_by}
use Rattle.machine_model.specs.Moment.{Moment, Piece, has_begun}
use Rattle.machine_model.specs.Pieces.{hands, piece_of, running_of, state_of, refusals}
use Rattle.machine_model.specs.State.{next_of, block_of, is_blocked, is_exhausted, is_free, tries_by, tried, victim_of}
use Rattle.machine_model.specs.Advance.{advance}

-- a piece as it is handed out: how often it was refused before, and how many tries the plain gate refuses
pub record Handed : Type 0 where
  pub piece : Piece
  pub tried : ℕ
  pub refuse : ℕ

-- how many tries of step b of process i the plain gate refuses, or of its undo
abbrev pub refuse_by : List Course → ℕ → ℕ → Work → ℕ
refuse_by courses i b Forward = (allowance courses i b).refuse
refuse_by courses i b Undo = (allowance courses i b).undo_refuse
refuse_by courses i b End = 0

-- the same of a task
abbrev pub refuse_of : List Course → ℕ → Task → ℕ
refuse_of courses i t = refuse_by courses i t.step t.work

-- the next piece of process i, with the next number
abbrev pub hand_to : List Course → Moment → ℕ → Handed
hand_to courses m i =
    let t = next_of courses m i in
    record {
      piece = record { number = length (hands m.kept) + 1; process = i; step = t.step; work = t.work };
      tried = tried m i t;
      refuse = refuse_of courses i t;
    }

-- the event that is kept when a piece is handed out
abbrev pub kept_hand : Handed → Kept
kept_hand d = Hand d.piece.number d.piece.process d.piece.step d.piece.work

-- what a request for a piece of one process answers
pub data Admit : Type 0 where
  piece : Handed → Admit
  blocked : Blocked → Admit
  running : Admit
  unknown : Admit
  ended : Admit
  exhausted : ℕ → Admit

-- blocked, or else the next piece of process i
abbrev pub piece_unless : List Course → Moment → ℕ → Option Blocked → Admit
piece_unless courses m i None = piece (hand_to courses m i)
piece_unless courses m i (Some b) = blocked b

-- exhausted, or else blocked or its next piece
abbrev pub admit_by_tries : ConflictRelation → List Course → Moment → ℕ → Bool → Admit
admit_by_tries table courses m i true = exhausted (next_of courses m i).step
admit_by_tries table courses m i false = piece_unless courses m i (block_of table courses m i)

-- running, or else the next reason
abbrev pub admit_by_running : ConflictRelation → List Course → Moment → ℕ → Bool → Admit
admit_by_running table courses m i true = running
admit_by_running table courses m i false = admit_by_tries table courses m i (is_exhausted courses m i)

-- ended, or else the next reason
abbrev pub admit_by_active : ConflictRelation → List Course → Moment → ℕ → Bool → Admit
admit_by_active table courses m i true = admit_by_running table courses m i (is_some (running_of m i))
admit_by_active table courses m i false = ended

-- unknown, or else the next reason
abbrev pub admit_by_known : ConflictRelation → List Course → Moment → ℕ → Bool → Admit
admit_by_known table courses m i true = admit_by_active table courses m i (is_active m.events i)
admit_by_known table courses m i false = unknown

-- the first of these that holds: unknown, ended, running, exhausted, blocked; and else its next piece
abbrev pub admit_reply : ConflictRelation → List Course → Moment → ℕ → Admit
admit_reply table courses m i = admit_by_known table courses m i (is_in i (starts m.events))

-- a process that is blocked, and by what
pub record BlockedProcess : Type 0 where
  pub process : ℕ
  pub block : Blocked

-- what a request for any piece answers
pub data Next : Type 0 where
  chosen : Handed → Next
  wait : Option BlockedProcess → Next
  all_ended : Next
  stuck : ℕ → Next

-- the active processes by number, beginning after the one that was served, and wrapping round
abbrev pub rotation : Moment → ℕ → List ℕ
rotation m served = filter (λ i. nat_lt served i) (active m.events) ++ filter (λ i. nat_le i served) (active m.events)

-- process i with its block, where it has no running piece and is blocked
abbrev pub waiting_process : ConflictRelation → List Course → Moment → ℕ → Option BlockedProcess
waiting_process table courses m i =
    if is_none (running_of m i) && is_blocked table courses m i
    then option_map (λ b. record { process = i; block = b }) (block_of table courses m i)
    else None

-- the blocked processes without a running piece, in rotation, each with its block
abbrev pub blocked_in_rotation : ConflictRelation → List Course → Moment → ℕ → List BlockedProcess
blocked_in_rotation table courses m served = filter_map (waiting_process table courses m) (rotation m served)

-- this victim, if there is one, and what follows it
abbrev pub victim_then : (ℕ → List Kept) → Option ℕ → List Kept
victim_then rest None = []
victim_then rest (Some i) = Victim i ∷ rest i

-- the victims that are made as long as one may be made; n is as many as there may be
abbrev pub victims : ℕ → ConflictRelation → List Course → Moment → List Kept
victims zero table courses m = []
victims (suc n) table courses m =
    victim_then (λ i. victims n table courses (advance table courses m (Victim i))) (victim_of table courses m)

-- at most every active process is a victim
abbrev pub all_victims : ConflictRelation → List Course → Moment → List Kept
all_victims table courses m = victims (length (active m.events)) table courses m

-- the least exhausted process
abbrev pub least_exhausted : List Course → Moment → ℕ
least_exhausted courses m = unwrap_or (least (filter (is_exhausted courses m) (active m.events))) 0

-- nothing runs, so one is stuck; or a piece runs, and there is a wait
abbrev pub none_free_by_running : ConflictRelation → List Course → Moment → ℕ → Bool → Next
none_free_by_running table courses m served true = stuck (least_exhausted courses m)
none_free_by_running table courses m served false = wait (slice_get (blocked_in_rotation table courses m served) 0)

-- all have ended, or else the next reason
abbrev pub none_free_by_active : ConflictRelation → List Course → Moment → ℕ → Bool → Next
none_free_by_active table courses m served true = all_ended
none_free_by_active table courses m served false = none_free_by_running table courses m served (nat_eq (length m.out) 0)

-- where none is free: all have ended; or one is stuck, as nothing runs; or a piece runs, and there is a wait
abbrev pub none_free_reply : ConflictRelation → List Course → Moment → ℕ → Next
none_free_reply table courses m served = none_free_by_active table courses m served (nat_eq (length (active m.events)) 0)

-- the next piece of the process that is free, if there is one
abbrev pub piece_of_free : List Course → Moment → Next → Option ℕ → Next
piece_of_free courses m otherwise None = otherwise
piece_of_free courses m otherwise (Some i) = chosen (hand_to courses m i)

-- with the victims made: the first free piece in rotation, or why there is none
abbrev pub next_reply : ConflictRelation → List Course → Moment → ℕ → Next
next_reply table courses m served =
    piece_of_free courses m (none_free_reply table courses m served) (find (is_free table courses m) (rotation m served))

-- what became of a piece that was refused just now
abbrev pub refusal_reply : List Course → Moment → Piece → Refusal
refusal_reply courses m p =
    refusal_by (tries_by courses p.process p.step p.work) (refusals m.kept p.process p.step p.work) (has_begun m p.process)

-- what the end of a piece answers
pub data Finish : Type 0 where
  effected : ℕ → Finish
  refused : Refusal → Finish
  over : Finish
  dropped : ℕ → Finish
  no_piece : Finish
  no_refusal : Finish

-- an end is never refused; what the refusal of another piece leads to
abbrev pub refused_unless_end : ConflictRelation → List Course → Moment → Piece → Bool → Finish
refused_unless_end table courses m p true = no_refusal
refused_unless_end table courses m p false = refused (refusal_reply courses (advance table courses m (Refuse p.number)) p)

-- a piece that is out takes effect, or is refused
abbrev pub out_finish : ConflictRelation → List Course → Moment → Piece → Outcome → Finish
out_finish table courses m p Done = effected (length m.events + 1)
out_finish table courses m p Refused = refused_unless_end table courses m p (same_work p.work End)

-- a piece in this state
abbrev pub finish_by : Finish → PieceState → Finish
finish_by out Out = out
finish_by out (Dropped k) = dropped k
finish_by out Over = over

-- piece n, if there is one
abbrev pub finish_piece : ConflictRelation → List Course → Moment → Outcome → Option Piece → Finish
finish_piece table courses m outcome None = no_piece
finish_piece table courses m outcome (Some p) = finish_by (out_finish table courses m p outcome) (state_of m p.number)

-- what is answered to the end of piece n
abbrev pub finish_reply : ConflictRelation → List Course → Moment → ℕ → Outcome → Finish
finish_reply table courses m n outcome = finish_piece table courses m outcome (piece_of m.kept n)

-- what it keeps: an effect, a refusal or nothing
abbrev pub finish_kept : ℕ → Finish → List Kept
finish_kept n (effected e) = Effect n ∷ []
finish_kept n (refused r) = Refuse n ∷ []
finish_kept n over = []
finish_kept n (dropped k) = []
finish_kept n no_piece = []
finish_kept n no_refusal = []

-- it has begun before, or begins now
abbrev pub abort_by_begun : Bool → Aborted
abort_by_begun true = Already
abort_by_begun false = Ok

-- exhausted, or else the next answer
abbrev pub abort_by_tries : Moment → ℕ → Bool → Aborted
abort_by_tries m i true = Exhausted
abort_by_tries m i false = abort_by_begun (has_begun m i)

-- ended, or else the next answer
abbrev pub abort_by_active : List Course → Moment → ℕ → Bool → Aborted
abort_by_active courses m i true = abort_by_tries m i (is_exhausted courses m i)
abort_by_active courses m i false = Ended

-- unknown, or else the next answer
abbrev pub abort_by_known : List Course → Moment → ℕ → Bool → Aborted
abort_by_known courses m i true = abort_by_active courses m i (is_active m.events i)
abort_by_known courses m i false = Unknown

-- what a request to complete answers
abbrev pub abort_reply : List Course → Moment → ℕ → Aborted
abort_reply courses m i = abort_by_known courses m i (is_in i (starts m.events))
