-- What an entry reports is so at its place: by the answer to a request; and while no piece is out, the queueing of one moves nothing.
use Rattle.std.proofs.Common.{◌≡◌, ◌∙◌, ℕ, Bool, true, false, eqb, filter, List, [], ◌∷◌, Option, Some, None, if◌then◌else◌, refl, ap, sym, subst}
use Rattle.std.specs.Bool.{⊤}
use Rattle.std.specs.List.{list_any}
use Rattle.std.proofs.lemmas.Bool.{false≢true}
use Rattle.process_tree.specs.declared.play.Outcome.{Outcome}
use Rattle.schedule_model.specs.Conflict.{ConflictRelation}
use Rattle.schedule_model.specs.Course.{Course}
use Rattle.schedule_model.specs.Histories.{is_in}
use Rattle.machine_model.specs.declared.kept.Kept.TheVariants.{Refuse}
use Rattle.machine_model.specs.declared.replies.PieceState.TheVariants.{Out}
use Rattle.machine_model.specs.declared.replies.Refusal.{Refusal}
use Rattle.machine_model.specs.declared.replies.Refusal.TheVariants as refusal
use Rattle.machine_model.specs.Advance.{advance}
use Rattle.machine_model.specs.Calls.{next, next_is}
use Rattle.machine_model.specs.Groups.{Targets, Taken, Queue as QueueReply, queued, full, refused, over, dropped, no_piece, no_refusal, is_end_piece, is_full, out_queue, queue_by, queue_piece, queue_reply}
use Rattle.machine_model.specs.Moment.{Moment, Piece}
use Rattle.machine_model.specs.Pieces.{dropped_at, dropped_or_over, piece_of, runs}
use Rattle.machine_model.specs.Replies.{Next as NextReply, chosen, wait, all_ended, stuck, refusal_reply}
use Rattle.machine_model.specs.Turns.{Said, says, no_memory, disk_fault, is_closed, Turn, nexts, finishes, queues, flushes, MaySay}
use Rattle.process_core.specs.Answers.{answer_in}
use Rattle.process_core.specs.Cores.{CoreState, courses_in, moment_of, relation}
use Rattle.engine_steps.specs.declared.engines.Phase.{Phase}
use Rattle.engine_steps.specs.declared.engines.Phase.TheVariants.{Settled, UnderWay, Closed}
use Rattle.process_engine.specs.declared.gates.Answer.{Answer}
use Rattle.shared_engine.specs.declared.entries.NextSaid.{NextSaid}
use Rattle.shared_engine.specs.declared.entries.NextSaid.TheVariants as asked
use Rattle.shared_engine.specs.declared.entries.FlushSaid.{FlushSaid}
use Rattle.shared_engine.specs.declared.entries.FlushSaid.TheVariants as flushed
use Rattle.shared_engine.specs.declared.entries.QueueSaid.{QueueSaid}
use Rattle.shared_engine.specs.declared.entries.QueueSaid.TheVariants as put
use Rattle.shared_engine.specs.declared.entries.TurnEntry.{TurnEntry}
use Rattle.shared_engine.specs.declared.entries.TurnEntry.TheVariants.{Next, Queue, Flush}
use Rattle.shared_engine.specs.Entries.{IsAsked, IsEntryOf, IsPut, IsRefusedAs, SaysFlush, SaysNext, SaysQueue}
use Rattle.shared_engine.specs.Progress.{IsTold, Progress, board_of}

abbrev at : CoreState → List ℕ → Phase → Bool → Progress
at c group p due = record { core = c; group = group; phase = p; due = due }

-- the parts of an entry, or others in their place
abbrev asked_in : NextSaid → TurnEntry → NextSaid
asked_in other (Next said) = said
asked_in other (Queue n answer reply) = other
asked_in other (Flush said) = other

abbrev reply_in : QueueSaid → TurnEntry → QueueSaid
reply_in other (Next said) = other
reply_in other (Queue n answer reply) = reply
reply_in other (Flush said) = other

abbrev flush_in : FlushSaid → TurnEntry → FlushSaid
flush_in other (Next said) = other
flush_in other (Queue n answer reply) = other
flush_in other (Flush said) = said

abbrev is_request : TurnEntry → Bool
is_request (Next said) = true
is_request (Queue n answer reply) = false
is_request (Flush said) = false

abbrev is_queueing : TurnEntry → Bool
is_queueing (Queue n answer reply) = true
is_queueing (Next said) = false
is_queueing (Flush said) = false

-- What the answer to a request reports.
abbrev pub Reports : Progress → NextSaid → Type 0
Reports p (asked.Piece n) = ⊤
Reports p (asked.Wait w) = ⊤
Reports p asked.AllEnded = next_is all_ended ≡ (answer_in p.core next).reply
Reports p (asked.Stuck i) = next_is (stuck i) ≡ (answer_in p.core next).reply
Reports p (asked.Closed k) = p.phase ≡ Closed

reports_asked : (p : Progress) (r : NextReply) (said : NextSaid) → (answer_in p.core next).reply ≡ next_is r → IsAsked r said → Reports p said
reports_asked p (chosen d) said replied is = subst (Reports p) (sym is) tt
reports_asked p (wait w) said replied is = subst (Reports p) (sym is.2) tt
reports_asked p all_ended said replied is = subst (Reports p) (sym is) (sym replied)
reports_asked p (stuck i) said replied is = subst (Reports p) (sym is) (sym replied)

module _ (targets : Targets) (c : CoreState) (group : List ℕ) (due : Bool) where
  abbrev here : Phase → Progress
  here p = at c group p due

  abbrev May : Phase → Turn → Type 0
  May p t = MaySay (relation c) targets (board_of (here p)) t

  reports_said : (p : Phase) (s : Said NextReply) (said : NextSaid) → May p (nexts s) → SaysNext s said → Reports (here p) said
  reports_said Settled (says r) said may is = reports_asked (here Settled) r said may is
  reports_said Settled no_memory said may is = absurd is
  reports_said Settled disk_fault said may is = absurd is
  reports_said Settled (is_closed k) said may is = absurd may
  reports_said UnderWay (says r) said may is = reports_asked (here UnderWay) r said may is
  reports_said UnderWay no_memory said may is = absurd is
  reports_said UnderWay disk_fault said may is = absurd is
  reports_said UnderWay (is_closed k) said may is = absurd may
  reports_said Closed (says r) said may is = absurd cc
  reports_said Closed no_memory said may is = absurd is
  reports_said Closed disk_fault said may is = absurd is
  reports_said Closed (is_closed k) said may is = subst (Reports (here Closed)) (sym is) refl

  reports_turn : (p : Phase) (t : Turn) (said : NextSaid) → IsEntryOf t (Next said) → May p t → Reports (here p) said
  reports_turn p (nexts s) said is may = subst (Reports (here p)) (ap (asked_in said) (sym is.1)) (reports_said p s is.0 may is.2)
  reports_turn p (finishes n outcome s) said is may = absurd is
  reports_turn p (queues n outcome s) said is may = absurd (false≢true (sym (ap is_request is.2)))
  reports_turn p (flushes s) said is may = absurd (false≢true (sym (ap is_request is.1)))

  -- It is so.
  pub reported : (p : Phase) (said : NextSaid) → IsTold targets (here p) (Next said) → Reports (here p) said
  reported p said told = reports_turn p told.turn said told.entry told.is_turn.0

-- the reply refuses a piece
abbrev refuses : QueueReply → Bool
refuses (refused r) = true
refuses queued = false
refuses full = false
refuses over = false
refuses (dropped k) = false
refuses no_piece = false
refuses no_refusal = false

-- the queueing of a piece is answered so where something is kept
abbrev pub moves : QueueSaid → Bool
moves (put.Retry k) = true
moves put.Failed = true
moves put.Exhausted = true
moves put.Queued = false
moves (put.Full n) = false
moves put.Over = false
moves (put.Dropped k) = false
moves (put.NoMemory n) = false
moves (put.Closed n) = false

refused_moves : (r : Refusal) (s : QueueSaid) → IsRefusedAs r s → moves s ≡ true
refused_moves (refusal.Retry k) s is = ap moves is
refused_moves refusal.Alternative s is = ap moves is
refused_moves refusal.RollBack s is = ap moves is
refused_moves refusal.Exhausted s is = ap moves is

put_moves : (n : ℕ) (r : QueueReply) (s : QueueSaid) → IsPut n r s → moves s ≡ refuses r
put_moves n queued s is = ap moves is
put_moves n full s is = ap moves is
put_moves n (refused r) s is = refused_moves r s is
put_moves n over s is = ap moves is
put_moves n (dropped k) s is = ap moves is
put_moves n no_piece s is = absurd is
put_moves n no_refusal s is = absurd is

module _ (table : ConflictRelation) (targets : Targets) (courses : List Course) (m : Moment) (idle : m.out ≡ []) where
  pub none_runs : (n : ℕ) → runs m n ≡ false
  none_runs n = ap (list_any (λ (p : Piece). eqb p.number n)) idle

  not_out : (b : Bool) (t : Bool) (o : Option ℕ) (out : QueueReply) → t ≡ false → refuses (if b then over else queue_by out (if t then Out else dropped_or_over o)) ≡ false
  not_out true t o out is = refl
  not_out false true o out is = absurd (false≢true (sym is))
  not_out false false None out is = refl
  not_out false false (Some k) out is = refl

  refuses_none : (group : List ℕ) (taken : Taken) (o : Option Piece) → refuses (queue_piece table targets courses m group taken o) ≡ false
  refuses_none group taken None = refl
  refuses_none group taken (Some p) =
      not_out (is_in p.number group) (runs m p.number) (dropped_at m p.number)
      (out_queue (is_end_piece p) (is_full targets courses m group p) (refusal_reply courses (advance table courses m (Refuse p.number)) p) taken) (none_runs p.number)

  -- while no piece is out the queueing of one keeps nothing
  reply_refuses : (group : List ℕ) (n : ℕ) (taken : Taken) → refuses (queue_reply table targets courses m group n taken) ≡ false
  reply_refuses group n taken = refuses_none group taken (piece_of m.kept n)

  some_run : (ns : List ℕ) → filter (runs m) ns ≡ []
  some_run [] = refl
  some_run (n ∷ ns) = rw (none_runs n) (some_run ns)

-- of those queued none runs
pub none_running : (c : CoreState) → (moment_of c).out ≡ [] → (group : List ℕ) → filter (runs (moment_of c)) group ≡ []
none_running c idle group = some_run (relation c) (λ n. record { subsystem = 0; has_bar = false }) (courses_in c) (moment_of c) idle group

module _ (targets : Targets) (c : CoreState) (group : List ℕ) (due : Bool) (idle : (moment_of c).out ≡ []) where
  said_moves : (p : Phase) (n : ℕ) (outcome : Outcome) (s : Said QueueReply) (reply : QueueSaid) → May targets c group due p (queues n outcome s) → SaysQueue n s reply → moves reply ≡ false
  said_moves Settled n outcome (says r) reply may is = put_moves n r reply is ∙ (ap refuses may.2 ∙ reply_refuses (relation c) targets (courses_in c) (moment_of c) idle group n may.0)
  said_moves Settled n outcome no_memory reply may is = ap moves is
  said_moves Settled n outcome disk_fault reply may is = absurd may
  said_moves Settled n outcome (is_closed k) reply may is = absurd may
  said_moves UnderWay n outcome (says r) reply may is = put_moves n r reply is ∙ (ap refuses may.2 ∙ reply_refuses (relation c) targets (courses_in c) (moment_of c) idle group n may.0)
  said_moves UnderWay n outcome no_memory reply may is = ap moves is
  said_moves UnderWay n outcome disk_fault reply may is = absurd may
  said_moves UnderWay n outcome (is_closed k) reply may is = absurd may
  said_moves Closed n outcome (says r) reply may is = absurd cc
  said_moves Closed n outcome no_memory reply may is = absurd cc
  said_moves Closed n outcome disk_fault reply may is = absurd cc
  said_moves Closed n outcome (is_closed k) reply may is = ap moves is

  turn_moves : (p : Phase) (t : Turn) (n : ℕ) (a : Answer) (reply : QueueSaid) → IsEntryOf t (Queue n a reply) → May targets c group due p t → moves reply ≡ false
  turn_moves p (nexts s) n a reply is may = absurd (false≢true (ap is_request is.1))
  turn_moves p (finishes k outcome s) n a reply is may = absurd is
  turn_moves p (queues k outcome s) n a reply is may = ap (λ e. moves (reply_in reply e)) is.2 ∙ said_moves p k outcome s is.1 may is.4
  turn_moves p (flushes s) n a reply is may = absurd (false≢true (sym (ap is_queueing is.1)))

  -- nor does it move anything.
  pub none_moves : (p : Phase) (n : ℕ) (a : Answer) (reply : QueueSaid) → IsTold targets (at c group p due) (Queue n a reply) → moves reply ≡ false
  none_moves p n a reply told = turn_moves p told.turn n a reply told.entry told.is_turn.0

-- The queueing of a piece is answered that the engine is closed only where it is,
abbrev ReportsClosed : Phase → QueueSaid → Type 0
ReportsClosed p (put.Closed k) = p ≡ Closed
ReportsClosed p put.Queued = ⊤
ReportsClosed p (put.Full n) = ⊤
ReportsClosed p (put.Retry k) = ⊤
ReportsClosed p put.Failed = ⊤
ReportsClosed p put.Exhausted = ⊤
ReportsClosed p put.Over = ⊤
ReportsClosed p (put.Dropped k) = ⊤
ReportsClosed p (put.NoMemory n) = ⊤

-- and so is a flush.
abbrev FlushReportsClosed : Phase → FlushSaid → Type 0
FlushReportsClosed p (flushed.Closed k) = p ≡ Closed
FlushReportsClosed p (flushed.Flushed n) = ⊤
FlushReportsClosed p flushed.DiskFault = ⊤

module _ (targets : Targets) (c : CoreState) (group : List ℕ) (due : Bool) where
  refused_open : (p : Phase) (r : Refusal) (s : QueueSaid) → IsRefusedAs r s → ReportsClosed p s
  refused_open p (refusal.Retry k) s is = subst (ReportsClosed p) (sym is) tt
  refused_open p refusal.Alternative s is = subst (ReportsClosed p) (sym is) tt
  refused_open p refusal.RollBack s is = subst (ReportsClosed p) (sym is) tt
  refused_open p refusal.Exhausted s is = subst (ReportsClosed p) (sym is) tt

  put_open : (p : Phase) (n : ℕ) (r : QueueReply) (s : QueueSaid) → IsPut n r s → ReportsClosed p s
  put_open p n queued s is = subst (ReportsClosed p) (sym is) tt
  put_open p n full s is = subst (ReportsClosed p) (sym is) tt
  put_open p n (refused r) s is = refused_open p r s is
  put_open p n over s is = subst (ReportsClosed p) (sym is) tt
  put_open p n (dropped k) s is = subst (ReportsClosed p) (sym is) tt
  put_open p n no_piece s is = absurd is
  put_open p n no_refusal s is = absurd is

  said_closed : (p : Phase) (n : ℕ) (outcome : Outcome) (s : Said QueueReply) (reply : QueueSaid) → May targets c group due p (queues n outcome s) → SaysQueue n s reply → ReportsClosed p reply
  said_closed p n outcome (says r) reply may is = put_open p n r reply is
  said_closed p n outcome no_memory reply may is = subst (ReportsClosed p) (sym is) tt
  said_closed p n outcome disk_fault reply may is = absurd is
  said_closed Settled n outcome (is_closed k) reply may is = absurd may
  said_closed UnderWay n outcome (is_closed k) reply may is = absurd may
  said_closed Closed n outcome (is_closed k) reply may is = subst (ReportsClosed Closed) (sym is) refl

  turn_closed : (p : Phase) (t : Turn) (n : ℕ) (a : Answer) (reply : QueueSaid) → IsEntryOf t (Queue n a reply) → May targets c group due p t → ReportsClosed p reply
  turn_closed p (nexts s) n a reply is may = absurd (false≢true (ap is_request is.1))
  turn_closed p (finishes k outcome s) n a reply is may = absurd is
  turn_closed p (queues k outcome s) n a reply is may = subst (ReportsClosed p) (ap (reply_in reply) (sym is.2)) (said_closed p k outcome s is.1 may is.4)
  turn_closed p (flushes s) n a reply is may = absurd (false≢true (sym (ap is_queueing is.1)))

  pub reported_closed : (p : Phase) (n : ℕ) (a : Answer) (k : ℕ) → IsTold targets (at c group p due) (Queue n a (put.Closed k)) → p ≡ Closed
  reported_closed p n a k told = turn_closed p told.turn n a (put.Closed k) told.entry told.is_turn.0

  flush_said_closed : (p : Phase) (s : Said ℕ) (said : FlushSaid) → May targets c group due p (flushes s) → SaysFlush s said → FlushReportsClosed p said
  flush_said_closed p (says n) said may is = subst (FlushReportsClosed p) (sym is) tt
  flush_said_closed p no_memory said may is = absurd is
  flush_said_closed p disk_fault said may is = subst (FlushReportsClosed p) (sym is) tt
  flush_said_closed Settled (is_closed k) said may is = absurd may
  flush_said_closed UnderWay (is_closed k) said may is = absurd may
  flush_said_closed Closed (is_closed k) said may is = subst (FlushReportsClosed Closed) (sym is) refl

  flush_turn_closed : (p : Phase) (t : Turn) (said : FlushSaid) → IsEntryOf t (Flush said) → May targets c group due p t → FlushReportsClosed p said
  flush_turn_closed p (nexts s) said is may = absurd (false≢true (ap is_request is.1))
  flush_turn_closed p (finishes k outcome s) said is may = absurd is
  flush_turn_closed p (queues k outcome s) said is may = absurd (false≢true (ap is_queueing is.2))
  flush_turn_closed p (flushes s) said is may = subst (FlushReportsClosed p) (ap (flush_in said) (sym is.1)) (flush_said_closed p s is.0 may is.2)

  pub flush_closed : (p : Phase) (k : ℕ) → IsTold targets (at c group p due) (Flush (flushed.Closed k)) → p ≡ Closed
  flush_closed p k told = flush_turn_closed p told.turn (flushed.Closed k) told.entry told.is_turn.0
