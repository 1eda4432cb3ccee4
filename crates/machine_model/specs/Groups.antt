-- Groups: pieces that are queued and take effect together.
use Rattle.std.specs.Prelude.{ℕ, ◌+◌, Bool, true, false, not, ◌&&◌, List, [], ◌∷◌, flat_map, length, nat_eq}
use Rattle.std.specs.Prelude.{if◌then◌else◌, Option, Some, None, unwrap_or}
use Rattle.std.specs.List.{list_any, filter_map}
use Rattle.process_tree.specs.declared.play.Outcome.{Outcome}
use Rattle.process_tree.specs.declared.play.Outcome.TheVariants.{Done, Refused}
use Rattle.schedule_model.specs.Course.{Course, op_of, key_of}
use Rattle.schedule_model.specs.Conflict.{ConflictRelation}
use Rattle.schedule_model.specs.Histories.{is_in}
use Rattle.machine_model.specs.declared.kept.Work.TheVariants.{Forward, End}
use Rattle.machine_model.specs.declared.kept.Kept.{Kept}
use Rattle.machine_model.specs.declared.kept.Kept.TheVariants.{Effect, Refuse}
use Rattle.machine_model.specs.declared.replies.Refusal.{Refusal}
use Rattle.machine_model.specs.declared.replies.PieceState.{PieceState}
use Rattle.machine_model.specs.declared.replies.PieceState.TheVariants.{Out, Dropped, Over}
use Rattle.machine_model.specs.Moment.{Moment, Piece}
use Rattle.machine_model.specs.Progress.{same_work}
use Rattle.machine_model.specs.Pieces.{piece_of, dropped_at, runs, state_of}
use Rattle.machine_model.specs.Advance.{advance}
use Rattle.machine_model.specs.Replies.{refusal_reply}

-- what a group asks of an operation: its subsystem, and whether values can bar a step of it
pub record Target : Type 0 where
  pub subsystem : ℕ
  pub has_bar : Bool

-- that of each operation
abbrev pub Targets : Type 0
Targets = ℕ → Target

-- how an answer to a piece is taken: as done, as refused, or as refused since the subsystem bars the step
pub data Taken : Type 0 where
  as_done : Taken
  as_refused : Taken
  as_barred : Taken

-- a step that is answered done may be barred, and nothing else is
abbrev pub may_take : Piece → Outcome → Taken → Bool
may_take p Done as_done = true
may_take p Done as_refused = false
may_take p Done as_barred = same_work p.work Forward
may_take p Refused as_done = false
may_take p Refused as_refused = true
may_take p Refused as_barred = false

-- the pieces of a group, dropped ones too
abbrev pub pieces_in : Moment → List ℕ → List Piece
pieces_in m group = filter_map (piece_of m.kept) group

-- the piece is an end
abbrev pub is_end_piece : Piece → Bool
is_end_piece p = same_work p.work End

-- two pieces act at one key: steps or undos, at the same key of the same subsystem
abbrev pub share_key : Targets → List Course → Piece → Piece → Bool
share_key targets courses p q =
    not (is_end_piece p) && not (is_end_piece q)
    && nat_eq (targets (op_of courses p.process p.step)).subsystem (targets (op_of courses q.process q.step)).subsystem
    && nat_eq (key_of courses p.process p.step) (key_of courses q.process q.step)

-- values can bar a piece: a forward step of such an operation
abbrev pub can_be_barred : Targets → List Course → Piece → Bool
can_be_barred targets courses p = same_work p.work Forward && (targets (op_of courses p.process p.step)).has_bar

-- A group is full for a piece that values can bar where a piece of it that isn't dropped acts at the same key: what that one will
-- make of the value there isn't known before the flush.
abbrev pub is_full : Targets → List Course → Moment → List ℕ → Piece → Bool
is_full targets courses m group p =
    can_be_barred targets courses p && list_any (λ q. share_key targets courses p q && runs m q.number) (pieces_in m group)

-- what the queueing of a piece answers
pub data Queue : Type 0 where
  queued : Queue
  full : Queue
  refused : Refusal → Queue
  over : Queue
  dropped : ℕ → Queue
  no_piece : Queue
  no_refusal : Queue

-- full where the group is, and else this
abbrev pub full_or : Bool → Queue → Queue
full_or true otherwise = full
full_or false otherwise = otherwise

-- an end is never refused; what the refusal of another piece leads to
abbrev pub refused_unless_end : Bool → Refusal → Queue
refused_unless_end true r = no_refusal
refused_unless_end false r = refused r

-- a piece that is out: refused at once where it was answered so; else full, if the group is; else refused where it is barred
abbrev pub out_queue : Bool → Bool → Refusal → Taken → Queue
out_queue is_end is_full r as_refused = refused_unless_end is_end r
out_queue is_end is_full r as_barred = full_or is_full (refused_unless_end is_end r)
out_queue is_end is_full r as_done = full_or is_full queued

-- a piece in this state
abbrev pub queue_by : Queue → PieceState → Queue
queue_by out Out = out
queue_by out (Dropped k) = dropped k
queue_by out Over = over

-- piece n, if there is one: one that is queued is over for whoever would queue it again
abbrev pub queue_piece : ConflictRelation → Targets → List Course → Moment → List ℕ → Taken → Option Piece → Queue
queue_piece table targets courses m group taken None = no_piece
queue_piece table targets courses m group taken (Some p) =
    let refusal = refusal_reply courses (advance table courses m (Refuse p.number)) p in
    if is_in p.number group then over
    else queue_by (out_queue (is_end_piece p) (is_full targets courses m group p) refusal taken) (state_of m p.number)

-- what is answered to the queueing of piece n
abbrev pub queue_reply : ConflictRelation → Targets → List Course → Moment → List ℕ → ℕ → Taken → Queue
queue_reply table targets courses m group n taken = queue_piece table targets courses m group taken (piece_of m.kept n)

-- it keeps a refusal or nothing, and a piece that is queued comes last in the group
abbrev pub queue_kept : ℕ → Queue → List Kept
queue_kept n (refused r) = Refuse n ∷ []
queue_kept n queued = []
queue_kept n full = []
queue_kept n over = []
queue_kept n (dropped k) = []
queue_kept n no_piece = []
queue_kept n no_refusal = []

-- a piece that is queued is added to the group
abbrev pub queue_adds : ℕ → Queue → List ℕ
queue_adds n queued = n ∷ []
queue_adds n full = []
queue_adds n (refused r) = []
queue_adds n over = []
queue_adds n (dropped k) = []
queue_adds n no_piece = []
queue_adds n no_refusal = []

-- what became of a piece of a group: its event has this place in the history, or it was dropped at this kept event
pub data GroupEnd : Type 0 where
  effected : ℕ → GroupEnd
  dropped_at_event : ℕ → GroupEnd

-- a piece of a group, and what became of it
pub record Ended : Type 0 where
  pub piece : ℕ
  pub ending : GroupEnd

-- piece p with what became of it, and then what became of the others: one that runs takes effect at the next place, and one
-- that doesn't was dropped; n events stand before it
abbrev pub ended_then : Moment → ℕ → ℕ → (ℕ → List Ended) → Bool → List Ended
ended_then m n p rest true = record { piece = p; ending = effected (n + 1) } ∷ rest (n + 1)
ended_then m n p rest false = record { piece = p; ending = dropped_at_event (unwrap_or (dropped_at m p) 0) } ∷ rest n

-- what a flush answers: each piece of the group in order; n events stand before
abbrev pub flush_reply : Moment → ℕ → List ℕ → List Ended
flush_reply m n [] = []
flush_reply m n (p ∷ ps) = ended_then m n p (λ k. flush_reply m k ps) (runs m p)

-- what is kept of a piece that ended so
abbrev pub kept_for : ℕ → GroupEnd → List Kept
kept_for p (effected n) = Effect p ∷ []
kept_for p (dropped_at_event k) = []

-- what is kept of these
abbrev pub kept_for_ended : List Ended → List Kept
kept_for_ended es = flat_map (λ e. kept_for e.piece e.ending) es

-- a flush keeps an effect for each piece of the group that takes effect, in order
abbrev pub flush_kept : Moment → List ℕ → List Kept
flush_kept m group = kept_for_ended (flush_reply m (length m.events) group)
