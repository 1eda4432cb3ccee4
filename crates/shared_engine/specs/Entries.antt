-- What the calls of an engine say, as entries of a history, and which turns of the machine these are.
use Rattle.std.specs.Prelude.{◌≡◌, ℕ, Bool, true, false, Option, Result}
use Rattle.std.specs.declared.result.Result.TheVariants.{Ok, Err}
use Rattle.std.specs.Option.{option_map}
use Rattle.machine_model.specs.declared.replies.Refusal.{Refusal}
use Rattle.machine_model.specs.declared.replies.Refusal.TheVariants as refusal
use Rattle.machine_model.specs.Replies.{Next as NextReply, chosen, wait, all_ended, stuck}
use Rattle.machine_model.specs.Groups.{Queue as QueueReply, queued, full, refused, over, dropped, no_piece, no_refusal}
use Rattle.machine_model.specs.Turns.{Said, says, no_memory, disk_fault, is_closed, Turn, nexts, finishes, queues, flushes}
use Rattle.process_core.specs.declared.replies.Next.{Next as CoreNext}
use Rattle.process_core.specs.declared.replies.Next.TheVariants as next
use Rattle.process_core.specs.declared.replies.Waiting.{Waiting}
use Rattle.process_core.specs.Rotation.{waiting_of}
use Rattle.engine_steps.specs.declared.engines.Closed.{Closed as IsShut}
use Rattle.process_engine.specs.declared.gates.Answer.{Answer}
use Rattle.process_engine.specs.declared.group.Flush.{Flush as EngineFlush}
use Rattle.process_engine.specs.declared.group.Flush.TheVariants as flush
use Rattle.process_engine.specs.declared.replies.Queue.{Queue as EngineQueue}
use Rattle.process_engine.specs.declared.replies.Queue.TheVariants as queue
use Rattle.shared_engine.specs.declared.entries.NextSaid.{NextSaid}
use Rattle.shared_engine.specs.declared.entries.NextSaid.TheVariants as asked
use Rattle.shared_engine.specs.declared.entries.QueueSaid.{QueueSaid}
use Rattle.shared_engine.specs.declared.entries.QueueSaid.TheVariants as put
use Rattle.shared_engine.specs.declared.entries.FlushSaid.{FlushSaid}
use Rattle.shared_engine.specs.declared.entries.FlushSaid.TheVariants as flushed
use Rattle.shared_engine.specs.GroupTurns.{effects_in, outcome_as}
use Rattle.shared_engine.specs.declared.entries.TurnEntry.{TurnEntry}
use Rattle.shared_engine.specs.declared.entries.TurnEntry.TheVariants.{Next, Queue, Flush}

-- the answer to a request for any piece, with the number of the piece
abbrev pub said_of : CoreNext → NextSaid
said_of (next.Piece d) = asked.Piece d.piece.number
said_of (next.Wait w) = asked.Wait w
said_of next.AllEnded = asked.AllEnded
said_of (next.Stuck i) = asked.Stuck i

-- the same, or that the engine is closed
abbrev pub next_said : Result CoreNext IsShut → NextSaid
next_said (Ok r) = said_of r
next_said (Err e) = asked.Closed e.0

-- the answer to the queueing of a piece, with the number of a piece that is handed back
abbrev pub queue_said : EngineQueue → QueueSaid
queue_said queue.Queued = put.Queued
queue_said (queue.Full d) = put.Full d.piece.number
queue_said (queue.Retry k) = put.Retry k
queue_said queue.Failed = put.Failed
queue_said queue.Over = put.Over
queue_said (queue.Dropped k) = put.Dropped k
queue_said queue.Exhausted = put.Exhausted
queue_said (queue.NoMemory d) = put.NoMemory d.piece.number
queue_said (queue.Closed n) = put.Closed n

-- the answer to a flush, with the number of pieces that took effect
abbrev pub flush_said : EngineFlush → FlushSaid
flush_said (flush.Flushed ends) = flushed.Flushed (effects_in ends)
flush_said flush.DiskFault = flushed.DiskFault
flush_said (flush.Closed n) = flushed.Closed n

-- the queueing of a piece found no memory
abbrev pub lacks_memory : EngineQueue → Bool
lacks_memory (queue.NoMemory d) = true
lacks_memory queue.Queued = false
lacks_memory (queue.Full d) = false
lacks_memory (queue.Retry k) = false
lacks_memory queue.Failed = false
lacks_memory queue.Over = false
lacks_memory (queue.Dropped k) = false
lacks_memory queue.Exhausted = false
lacks_memory (queue.Closed n) = false

-- this is what is said of the machine's reply to a request for any piece
abbrev pub IsAsked : NextReply → NextSaid → Type 0
IsAsked (chosen d) said = said ≡ asked.Piece d.piece.number
IsAsked (wait w) said = (v : Option Waiting) × (w ≡ option_map waiting_of v) × (said ≡ asked.Wait v)
IsAsked all_ended said = said ≡ asked.AllEnded
IsAsked (stuck i) said = said ≡ asked.Stuck i

-- this is what is said of a refusal: another way and the way back are told as one
abbrev pub IsRefusedAs : Refusal → QueueSaid → Type 0
IsRefusedAs (refusal.Retry k) said = said ≡ put.Retry k
IsRefusedAs refusal.Alternative said = said ≡ put.Failed
IsRefusedAs refusal.RollBack said = said ≡ put.Failed
IsRefusedAs refusal.Exhausted said = said ≡ put.Exhausted

-- this is what is said of the machine's reply to the queueing of piece n
abbrev pub IsPut : ℕ → QueueReply → QueueSaid → Type 0
IsPut n queued said = said ≡ put.Queued
IsPut n full said = said ≡ put.Full n
IsPut n (refused r) said = IsRefusedAs r said
IsPut n over said = said ≡ put.Over
IsPut n (dropped k) said = said ≡ put.Dropped k
IsPut n no_piece said = ⊥
IsPut n no_refusal said = ⊥

-- this is what a request says, with its failures
abbrev pub SaysNext : Said NextReply → NextSaid → Type 0
SaysNext (says r) said = IsAsked r said
SaysNext no_memory said = ⊥
SaysNext disk_fault said = ⊥
SaysNext (is_closed k) said = said ≡ asked.Closed k

-- the queueing of piece n,
abbrev pub SaysQueue : ℕ → Said QueueReply → QueueSaid → Type 0
SaysQueue n (says r) said = IsPut n r said
SaysQueue n no_memory said = said ≡ put.NoMemory n
SaysQueue n disk_fault said = ⊥
SaysQueue n (is_closed k) said = said ≡ put.Closed k

-- and a flush
abbrev pub SaysFlush : Said ℕ → FlushSaid → Type 0
SaysFlush (says n) said = said ≡ flushed.Flushed n
SaysFlush no_memory said = ⊥
SaysFlush disk_fault said = said ≡ flushed.DiskFault
SaysFlush (is_closed k) said = said ≡ flushed.Closed k

-- The entry is that of this turn of the machine; none is the end of a piece by itself.
abbrev pub IsEntryOf : Turn → TurnEntry → Type 0
IsEntryOf (nexts said) e = (s : NextSaid) × (e ≡ Next s) × SaysNext said s
IsEntryOf (finishes n outcome said) e = ⊥
IsEntryOf (queues n outcome said) e =
    (a : Answer) × (s : QueueSaid) × (e ≡ Queue n a s) × (outcome ≡ outcome_as a) × SaysQueue n said s
IsEntryOf (flushes said) e = (s : FlushSaid) × (e ≡ Flush s) × SaysFlush said s
