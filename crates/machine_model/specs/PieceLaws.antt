-- The laws of pieces and of one process alone, as statements.
use Rattle.std.specs.Prelude.{◌≡◌, ◌⊎◌, ◌↔◌, ◌≤◌, ◌<◌, ℕ, Bool, true, false, not, ◌&&◌, List, length, take, filter, ◌-◌, nat_eq}
use Rattle.std.specs.Prelude.{IsTrue, Option, Some, None, is_some, if◌then◌else◌}
use Rattle.process_tree.specs.declared.plan.Plan.{Plan}
use Rattle.schedule_model.specs.Conflict.{ConflictRelation}
use Rattle.schedule_model.specs.Histories.{done_steps, ends, is_active, is_in, net_steps}
use Rattle.schedule_model.specs.Recovery.{owed_steps}
use Rattle.schedule_model.specs.Course.{Course, shape}
use Rattle.machine_model.specs.declared.kept.Work.{Work}
use Rattle.machine_model.specs.declared.kept.Work.TheVariants.{Forward, Undo, End}
use Rattle.machine_model.specs.declared.kept.Kept.{Kept}
use Rattle.machine_model.specs.declared.kept.Kept.TheVariants.{Start, Hand, Effect, Refuse, Abort, Victim, Restart}
use Rattle.machine_model.specs.declared.replies.PieceState.TheVariants.{Dropped, Over}
use Rattle.machine_model.specs.Progress.{Progress, Task, is_only_try, same_task}
use Rattle.machine_model.specs.ProcessState.{ProcessState, effected, was_refused, begun, work_done, past, complete_unless_on}
use Rattle.machine_model.specs.Moment.{Moment, Piece, Beginning, beginning_of, has_begun}
use Rattle.machine_model.specs.Pieces.{is_finished, piece_of, refusals, running_of, state_of}
use Rattle.machine_model.specs.State.{hold_of, next_of, process_state, progress}
use Rattle.machine_model.specs.Advance.{Machine, advance}
use Rattle.machine_model.specs.Runs.{history, is_run, may_be_kept, now}
use Rattle.machine_model.specs.Laws.{IsSession}

-- A piece that was handed out is over exactly where the kept events have its effect or its refusal.
abbrev pub OverIsFinished : Type 0
OverIsFinished = (table : ConflictRelation) (s : Machine) (n : ℕ) → IsTrue (is_run table s) → IsTrue (is_some (piece_of s.kept n))
    → (state_of (now table s) n ≡ Over) ↔ IsTrue (is_finished s.kept n)

-- Process of piece n began to complete at kept event k, after the piece was handed out and while it was unfinished.
abbrev pub WasDroppedAt : Moment → ℕ → ℕ → Type 0
WasDroppedAt m n k =
    (p : Piece) × (b : Beginning) × (piece_of m.kept n ≡ Some p) × (beginning_of m p.process ≡ Some b) × (b.began.event ≡ k)
    × IsTrue (is_some (piece_of (take k m.kept) n)) × (is_finished (take k m.kept) n ≡ false)

-- A piece that was handed out is dropped at a kept event exactly where that is so.
abbrev pub DroppedIsExact : Type 0
DroppedIsExact = (table : ConflictRelation) (s : Machine) (n k : ℕ) → IsTrue (is_run table s) → IsTrue (is_some (piece_of s.kept n))
    → (state_of (now table s) n ≡ Dropped k) ↔ WasDroppedAt (now table s) n k

-- At most one piece of a process is out.
abbrev pub OneRuns : Type 0
OneRuns = (table : ConflictRelation) (s : Machine) (i : ℕ) → IsTrue (is_run table s)
    → length (filter (λ p. nat_eq p.process i) (now table s).out) ≤ 1

-- The running piece of a process is its next piece.
abbrev pub RunningIsNext : Type 0
RunningIsNext = (table : ConflictRelation) (s : Machine) (i : ℕ) (p : Piece) → IsTrue (is_run table s)
    → running_of (now table s) i ≡ Some p
    → same_task (record { work = p.work; step = p.step }) (next_of s.courses (now table s) i) ≡ true

-- the piece that an event hands out or ends
abbrev pub piece_touched : List Kept → Kept → Option Piece
piece_touched ks (Hand piece process step work) = Some (record { number = piece; process = process; step = step; work = work })
piece_touched ks (Effect n) = piece_of ks n
piece_touched ks (Refuse n) = piece_of ks n
piece_touched ks (Start i) = None
piece_touched ks (Abort i) = None
piece_touched ks (Victim i) = None
piece_touched ks Restart = None

-- the event neither hands out nor ends a piece of process i
abbrev pub LeavesPieceOf : List Kept → Kept → ℕ → Type 0
LeavesPieceOf ks k i = (p : Piece) → piece_touched ks k ≡ Some p → nat_eq p.process i ≡ false

-- Frame law: an event that neither hands out nor ends a piece of process i, and doesn't make it begin to complete, leaves what
-- it runs, its state and what it holds.
abbrev pub OthersStay : Type 0
OthersStay = (table : ConflictRelation) (s : Machine) (k : Kept) (i : ℕ) → IsTrue (is_run table s)
    → IsTrue (may_be_kept table s.courses (now table s) k)
    → LeavesPieceOf s.kept k i
    → let m = now table s in
    let after = advance table s.courses m k in
    has_begun after i ≡ has_begun m i
    → (running_of after i ≡ running_of m i) × (process_state s.courses after i ≡ process_state s.courses m i)
    × (hold_of s.courses after i ≡ hold_of s.courses m i)

-- the piece that an event ends
abbrev pub piece_ended : List Kept → Kept → Option Piece
piece_ended ks (Effect n) = piece_of ks n
piece_ended ks (Refuse n) = piece_of ks n
piece_ended ks (Start i) = None
piece_ended ks (Hand piece process step work) = None
piece_ended ks (Abort i) = None
piece_ended ks (Victim i) = None
piece_ended ks Restart = None

-- what a kept event makes of the progress of process i where it ends this piece, which is the next one
abbrev pub progress_by_piece : Kept → ℕ → Progress → Option Piece → Progress
progress_by_piece k i s None = s
progress_by_piece (Effect n) i s (Some p) = if nat_eq p.process i then work_done s p.step p.work else s
progress_by_piece (Refuse n) i s (Some p) = if nat_eq p.process i && is_only_try s.shape p.step p.work then past s p.step else s
progress_by_piece k i s (Some p) = s

-- with this beginning
abbrev pub with_begun : Bool → Progress → Progress
with_begun has s = record { shape = s.shape; net = s.net; onward = s.onward; begun = has }

-- the event is the undo of a piece of process i
abbrev pub IsUndoOf : ℕ → Kept → Option Piece → Type 0
IsUndoOf i k None = ⊥
IsUndoOf i (Effect n) (Some p) = (p.process ≡ i) × (p.work ≡ Undo)
IsUndoOf i k (Some p) = ⊥

-- The progress of a process goes by the end of its pieces and by its beginning to complete; for an undo, where it takes back the
-- last step of the net.
abbrev pub ProgressGoesByTransitions : Type 0
ProgressGoesByTransitions = (table : ConflictRelation) (s : Machine) (k : Kept) (i : ℕ) → IsTrue (is_run table s)
    → IsTrue (may_be_kept table s.courses (now table s) k)
    → let m = now table s in
    let after = advance table s.courses m k in
    (IsUndoOf i k (piece_ended s.kept k) → net_steps after.events i
    ≡ take (length (net_steps m.events i) - 1) (net_steps m.events i))
    → progress s.courses after i ≡ with_begun (has_begun after i)
    (progress_by_piece k i (progress s.courses m i) (piece_ended s.kept k))

-- In a session an undo takes back the last step of the net.
abbrev pub UndosTakeBackTheLast : Type 0
UndosTakeBackTheLast = (table : ConflictRelation) (plans : List Plan) (s : Machine) (k : Kept) (i : ℕ) → IsSession table plans s
    → IsTrue (may_be_kept table s.courses (now table s) k) → IsUndoOf i k (piece_ended s.kept k)
    → let m = now table s in
    net_steps (advance table s.courses m k).events i ≡ take (length (net_steps m.events i) - 1) (net_steps m.events i)

-- A refusal of the one try of a step makes its process begin to complete exactly where no way on is left.
abbrev pub RefusedBeginsWithoutWayOn : Type 0
RefusedBeginsWithoutWayOn = (table : ConflictRelation) (s : Machine) (n : ℕ) (p : Piece) → IsTrue (is_run table s)
    → IsTrue (may_be_kept table s.courses (now table s) (Refuse n))
    → piece_of s.kept n ≡ Some p
    → let m = now table s in
    let after = advance table s.courses m (Refuse n) in
    is_only_try (shape s.courses p.process) p.step p.work ≡ true
    → progress s.courses after p.process ≡ complete_unless_on (past (progress s.courses m p.process) p.step)

-- what a kept event makes of the state of process i where it is of its piece
abbrev pub state_by_piece : Kept → ℕ → ProcessState → Option Piece → ProcessState
state_by_piece k i s None = s
state_by_piece (Effect n) i s (Some p) = if nat_eq p.process i then effected s else s
state_by_piece (Refuse n) i s (Some p) = if nat_eq p.process i then was_refused s else s
state_by_piece k i s (Some p) = s

-- this work on step b of process i never comes again
abbrev pub IsGone : List Course → Moment → ℕ → ℕ → Work → Type 0
IsGone courses m i b Forward =
    (b < (progress courses m i).onward) ⊎ ((has_begun m i ≡ true) × (is_in b (owed_steps courses m.events i) ≡ false))
IsGone courses m i b Undo = (is_in b (done_steps m.events i) ≡ true) × (is_in b (net_steps m.events i) ≡ false)
IsGone courses m i b End = ⊥

-- Whatever was refused of a process that hasn't ended is its next piece or never comes again; and what never comes again isn't
-- next.
abbrev pub RefusedIsNextOrGone : Type 0
RefusedIsNextOrGone = (table : ConflictRelation) (plans : List Plan) (s : Machine) → IsSession table plans s
    → (i b : ℕ) (w : Work) → is_in i (ends (history table s)) ≡ false
    → let t : Task = record { work = w; step = b } in
    (1 ≤ refusals s.kept i b w → (same_task t (next_of s.courses (now table s) i) ≡ true) ⊎ IsGone s.courses (now table s) i b w)
    × (IsGone s.courses (now table s) i b w → same_task t (next_of s.courses (now table s) i) ≡ true → ⊥)

-- it begins to complete, where it has now and had not
abbrev pub begun_where : Bool → ProcessState → ProcessState
begun_where has s = if has && not s.progress.begun then begun s else s

-- One counter of refusals is enough: the state of an active process goes by the transitions of one process alone.
abbrev pub StatesGoByTransitions : Type 0
StatesGoByTransitions = (table : ConflictRelation) (plans : List Plan) (s : Machine) (k : Kept) → IsSession table plans s
    → IsTrue (may_be_kept table s.courses (now table s) k) → (i : ℕ) → IsTrue (is_active (now table s).events i)
    → let after = advance table s.courses (now table s) k in
    IsTrue (is_active after.events i)
    → process_state s.courses after i ≡ begun_where (has_begun after i)
    (state_by_piece k i (process_state s.courses (now table s) i) (piece_ended s.kept k))
