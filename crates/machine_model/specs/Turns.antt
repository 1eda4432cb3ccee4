-- One history of turns: the calls of all threads in the order in which they were made, each with its reply.
use Rattle.std.specs.Prelude.{◌≡◌, ◌≢◌, ℕ, Bool, true, false, ◌||◌, not, List, [], ◌∷◌, ◌++◌, length, nat_eq, Option, Some, None}
use Rattle.std.specs.Prelude.{IsTrue}
use Rattle.process_tree.specs.declared.play.Outcome.{Outcome}
use Rattle.process_tree.specs.declared.play.Outcome.TheVariants.{Done, Refused}
use Rattle.schedule_model.specs.Conflict.{ConflictRelation}
use Rattle.machine_model.specs.declared.kept.Kept.{Kept}
use Rattle.machine_model.specs.declared.kept.Work.TheVariants.{Forward}
use Rattle.machine_model.specs.Moment.{Piece}
use Rattle.machine_model.specs.Pieces.{piece_of, runs}
use Rattle.machine_model.specs.Advance.{Machine}
use Rattle.machine_model.specs.Runs.{now}
use Rattle.machine_model.specs.Replies.{Next, chosen, wait, all_ended, stuck, Finish, finish_reply, finish_kept, all_victims}
use Rattle.machine_model.specs.Calls.{answer_next, next_is, next_kept, next_served}
use Rattle.machine_model.specs.Groups.{Targets, Taken, as_done, as_refused, as_barred, may_take, Queue, queued, full, refused}
use Rattle.machine_model.specs.Groups.{over, dropped, no_piece, no_refusal, queue_reply, queue_kept, queue_adds, flush_kept}

-- the machine with the pieces that are queued, and, once a fault of the disk closed it, how many events were kept then
pub record Board : Type 0 where
  pub machine : Machine
  pub group : List ℕ
  pub closed : Option ℕ

-- what a call says: its reply, or that memory or the disk failed it, or that the disk had failed an earlier one
pub data Said (R : Type 0) : Type 0 where
  says : R → Said R
  no_memory : Said R
  disk_fault : Said R
  is_closed : ℕ → Said R

-- a call with what it said; a flush says how many pieces took effect
pub data Turn : Type 0 where
  nexts : Said Next → Turn
  finishes : ℕ → Outcome → Said Finish → Turn
  queues : ℕ → Outcome → Said Queue → Turn
  flushes : Said ℕ → Turn

-- the board with more kept, another group and who is served now
abbrev pub moved : Board → List Kept → List ℕ → ℕ → Board
moved b ks group served = record {
  machine = record { opening = b.machine.opening; courses = b.machine.courses; kept = b.machine.kept ++ ks; served = served };
  group = group;
  closed = b.closed;
}

-- the board after a fault of the disk
abbrev pub shut : Board → Board
shut b = record { machine = b.machine; group = b.group; closed = Some (length b.machine.kept) }

-- the board after a call, which replied or not: a fault keeps nothing, and one of the disk closes the board for good
abbrev pub after_said : {R : Type 0} → (R → Board) → Board → Said R → Board
after_said moved_by b (says r) = moved_by r
after_said moved_by b no_memory = b
after_said moved_by b disk_fault = shut b
after_said moved_by b (is_closed k) = b

-- after a reply to a request for any piece: the victims and the hand are kept
abbrev pub after_next : ConflictRelation → Board → Next → Board
after_next table b r =
    let m = now table b.machine in
    moved b (all_victims table b.machine.courses m ++ next_kept r) b.group (next_served b.machine.served r)

-- after a reply to the end of piece n
abbrev pub after_finish : Board → ℕ → Finish → Board
after_finish b n r = moved b (finish_kept n r) b.group b.machine.served

-- after a reply to the queueing of piece n: one that is queued comes last in the group
abbrev pub after_queue : Board → ℕ → Queue → Board
after_queue b n r = moved b (queue_kept n r) (b.group ++ queue_adds n r) b.machine.served

-- after a flush: the group is empty
abbrev pub after_flush : ConflictRelation → Board → ℕ → Board
after_flush table b n = moved b (flush_kept (now table b.machine) b.group) [] b.machine.served

-- the board after a turn
abbrev pub after_turn : ConflictRelation → Board → Turn → Board
after_turn table b (nexts said) = after_said (after_next table b) b said
after_turn table b (finishes n outcome said) = after_said (after_finish b n) b said
after_turn table b (queues n outcome said) = after_said (after_queue b n) b said
after_turn table b (flushes said) = after_said (after_flush table b) b said

-- the board after these turns
abbrev pub after_turns : ConflictRelation → Board → List Turn → Board
after_turns table b [] = b
after_turns table b (t ∷ ts) = after_turns table (after_turn table b t) ts

-- as it was answered
abbrev pub as_answered : Outcome → Taken
as_answered Done = as_done
as_answered Refused = as_refused

-- how a piece that is finished or queued may be taken; where there is no such piece, as it was answered
abbrev pub MayTake : Outcome → Taken → Option Piece → Type 0
MayTake outcome taken None = taken ≡ as_answered outcome
MayTake outcome taken (Some p) = IsTrue (may_take p outcome taken)

-- what that comes to: done or refused
abbrev pub taken_as : Taken → Outcome
taken_as as_done = Done
taken_as as_refused = Refused
taken_as as_barred = Refused

-- there is a piece, and it is a step
abbrev pub IsStepPiece : Option Piece → Type 0
IsStepPiece None = ⊥
IsStepPiece (Some p) = p.work ≡ Forward

-- a request for any piece may say this: the machine's reply, as memory and disk can't fail it
abbrev pub NextMaySay : ConflictRelation → Board → Said Next → Type 0
NextMaySay table b (says r) = (answer_next table b.machine.courses (now table b.machine) b.machine.served).reply ≡ next_is r
NextMaySay table b no_memory = ⊥
NextMaySay table b disk_fault = ⊥
NextMaySay table b (is_closed k) = ⊥

-- the end of piece n may say this, while nothing is queued: the machine's reply; or, where the piece is out and was answered
-- done, that the disk failed, and for a step that memory did
abbrev pub FinishMaySay : ConflictRelation → Board → ℕ → Outcome → Said Finish → Type 0
FinishMaySay table b n outcome (says r) =
    (b.group ≡ [])
    × ((taken : Taken) × MayTake outcome taken (piece_of b.machine.kept n)
    × (r ≡ finish_reply table b.machine.courses (now table b.machine) n (taken_as taken)))
FinishMaySay table b n outcome no_memory =
    (b.group ≡ []) × (outcome ≡ Done) × IsTrue (runs (now table b.machine) n) × IsStepPiece (piece_of b.machine.kept n)
FinishMaySay table b n outcome disk_fault = (b.group ≡ []) × (outcome ≡ Done) × IsTrue (runs (now table b.machine) n)
FinishMaySay table b n outcome (is_closed k) = ⊥

-- the queueing of piece n, which touches no disk, may say this: the machine's reply; or, for a step that would be queued, that
-- memory failed
abbrev pub QueueMaySay : ConflictRelation → Targets → Board → ℕ → Outcome → Said Queue → Type 0
QueueMaySay table targets b n outcome (says r) =
    (taken : Taken) × MayTake outcome taken (piece_of b.machine.kept n)
    × (r ≡ queue_reply table targets b.machine.courses (now table b.machine) b.group n taken)
QueueMaySay table targets b n outcome no_memory =
    (outcome ≡ Done) × (queue_reply table targets b.machine.courses (now table b.machine) b.group n as_done ≡ queued)
    × IsStepPiece (piece_of b.machine.kept n)
QueueMaySay table targets b n outcome disk_fault = ⊥
QueueMaySay table targets b n outcome (is_closed k) = ⊥

-- a flush, which takes no memory, may say this: how many pieces took effect; or that the disk failed, where some piece takes
-- effect
abbrev pub FlushMaySay : ConflictRelation → Board → Said ℕ → Type 0
FlushMaySay table b (says n) = n ≡ length (flush_kept (now table b.machine) b.group)
FlushMaySay table b no_memory = ⊥
FlushMaySay table b disk_fault = flush_kept (now table b.machine) b.group ≢ []
FlushMaySay table b (is_closed k) = ⊥

-- a turn of a board that isn't closed may say this
abbrev pub OpenMaySay : ConflictRelation → Targets → Board → Turn → Type 0
OpenMaySay table targets b (nexts said) = NextMaySay table b said
OpenMaySay table targets b (finishes n outcome said) = FinishMaySay table b n outcome said
OpenMaySay table targets b (queues n outcome said) = QueueMaySay table targets b n outcome said
OpenMaySay table targets b (flushes said) = FlushMaySay table b said

-- a turn of a closed board says so
abbrev pub SaysClosed : ℕ → Turn → Type 0
SaysClosed k (nexts said) = said ≡ is_closed k
SaysClosed k (finishes n outcome said) = said ≡ is_closed k
SaysClosed k (queues n outcome said) = said ≡ is_closed k
SaysClosed k (flushes said) = said ≡ is_closed k

-- the same, by whether the board is closed
abbrev pub MaySayBy : ConflictRelation → Targets → Board → Turn → Option ℕ → Type 0
MaySayBy table targets b turn None = OpenMaySay table targets b turn
MaySayBy table targets b turn (Some k) = SaysClosed k turn

-- a turn may be made of this board: what it says is the machine's at its place, where an answer of done may be taken as barred
abbrev pub MaySay : ConflictRelation → Targets → Board → Turn → Type 0
MaySay table targets b turn = MaySayBy table targets b turn b.closed

-- each of these turns may be made of the board after those before it
abbrev pub AllMaySay : ConflictRelation → Targets → Board → List Turn → Type 0
AllMaySay table targets b [] = Unit {0}
AllMaySay table targets b (t ∷ ts) = MaySay table targets b t × AllMaySay table targets (after_turn table b t) ts

-- a turn leads from one board to the next
abbrev pub IsTurn : ConflictRelation → Targets → Board → Turn → Board → Type 0
IsTurn table targets b turn after = MaySay table targets b turn × (after ≡ after_turn table b turn)

-- these turns, one after another, lead from one board to the last
abbrev pub AreTurns : ConflictRelation → Targets → Board → List Turn → Board → Type 0
AreTurns table targets b ts last = AllMaySay table targets b ts × (last ≡ after_turns table b ts)

-- a request that has to wait while something is queued asks for a flush
abbrev pub asks_to_flush : List ℕ → Next → Bool
asks_to_flush group (wait w) = not (nat_eq (length group) 0)
asks_to_flush group (chosen d) = false
asks_to_flush group all_ended = false
asks_to_flush group (stuck i) = false

-- so does a piece for which the group is full
abbrev pub is_full_reply : Queue → Bool
is_full_reply full = true
is_full_reply queued = false
is_full_reply (refused r) = false
is_full_reply over = false
is_full_reply (dropped k) = false
is_full_reply no_piece = false
is_full_reply no_refusal = false

-- what was replied passes
abbrev pub if_said : {R : Type 0} → (R → Bool) → Said R → Bool
if_said passes (says r) = passes r
if_said passes no_memory = false
if_said passes disk_fault = false
if_said passes (is_closed k) = false

-- whether a flush is due after a turn: one is asked for, since the last flush
abbrev pub due_after : Board → Bool → Turn → Bool
due_after b due (nexts said) = due || if_said (asks_to_flush b.group) said
due_after b due (finishes n outcome said) = due
due_after b due (queues n outcome said) = due || if_said is_full_reply said
due_after b due (flushes said) = false

-- where the turn is a flush, one is due
abbrev pub IsDue : Bool → Turn → Type 0
IsDue due (nexts said) = Unit {0}
IsDue due (finishes n outcome said) = Unit {0}
IsDue due (queues n outcome said) = Unit {0}
IsDue due (flushes said) = IsTrue due

-- each flush among these turns comes behind a full group, or a wait with something queued, and no other flush between; due says
-- whether one is due at first
abbrev pub FlushesAreDue : ConflictRelation → Board → Bool → List Turn → Type 0
FlushesAreDue table b due [] = Unit {0}
FlushesAreDue table b due (t ∷ ts) = IsDue due t × FlushesAreDue table (after_turn table b t) (due_after b due t) ts
