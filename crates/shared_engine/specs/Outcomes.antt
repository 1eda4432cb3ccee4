-- What a turn comes to in which a piece is asked for, or queued once more.
use Rattle.std.specs.Prelude.{◌≡◌, ⊤, ℕ, Bool, true, false, IfOk}
use Rattle.machine_model.specs.Replies.{Handed}
use Rattle.process_core.specs.Cores.{CoreState}
use Rattle.process_engine.specs.declared.gates.Answer.{Answer}
use Rattle.process_engine.specs.declared.gates.Answer.TheVariants.{Done}
use Rattle.process_engine.specs.declared.replies.Queue.{Queue as EngineQueue}
use Rattle.process_engine.specs.declared.replies.Queue.TheVariants as queue
use Rattle.engine_calls.specs.GateAnswers.{IsGiven}
use Rattle.shared_engine.specs.declared.entries.TurnEntry.{TurnEntry}
use Rattle.shared_engine.specs.declared.entries.TurnEntry.TheVariants.{Next, Queue, Flush}
use Rattle.shared_engine.specs.declared.outcomes.NextTurn.{NextTurn}
use Rattle.shared_engine.specs.declared.outcomes.NextTurn.TheVariants as next
use Rattle.shared_engine.specs.declared.outcomes.QueueTurn.{QueueTurn}
use Rattle.shared_engine.specs.declared.outcomes.QueueTurn.TheVariants as again
use Rattle.shared_engine.specs.Entries.{flush_said, lacks_memory, next_said, queue_said}

-- the entry of a turn in which piece n was queued
abbrev pub queue_entry : ℕ → Answer → EngineQueue → TurnEntry
queue_entry n answer reply = Queue n answer (queue_said reply)

-- the entry of a turn for a request
abbrev pub next_entry : NextTurn → TurnEntry
next_entry (next.Flushed reply) = Flush (flush_said reply)
next_entry (next.Answered reply) = Next (next_said reply)

-- the entry of a turn for piece n, whose work is done and that found the group full
abbrev pub queue_entry_again : ℕ → QueueTurn → TurnEntry
queue_entry_again n (again.Flushed reply d) = Flush (flush_said reply)
queue_entry_again n (again.Answered reply) = queue_entry n Done reply

-- a flush was made in place of a request
abbrev pub is_flush : NextTurn → Bool
is_flush (next.Flushed reply) = true
is_flush (next.Answered reply) = false

-- a flush was made in place of a queueing
abbrev pub flushes_first : QueueTurn → Bool
flushes_first (again.Flushed reply d) = true
flushes_first (again.Answered reply) = false

-- the piece that a turn for a request got was handed out by this core
abbrev pub IsGivenBy : CoreState → NextTurn → Type 0
IsGivenBy c (next.Flushed reply) = ⊤
IsGivenBy c (next.Answered reply) = IfOk reply (IsGiven c)

-- A piece that is handed back is the one that was to be queued; where it found the group full its work is done.
abbrev pub HandsBack : Handed → Answer → EngineQueue → Type 0
HandsBack d answer (queue.Full q) = (q ≡ d) × (answer ≡ Done)
HandsBack d answer (queue.NoMemory q) = q ≡ d
HandsBack d answer queue.Queued = ⊤
HandsBack d answer (queue.Retry k) = ⊤
HandsBack d answer queue.Failed = ⊤
HandsBack d answer queue.Over = ⊤
HandsBack d answer (queue.Dropped k) = ⊤
HandsBack d answer queue.Exhausted = ⊤
HandsBack d answer (queue.Closed n) = ⊤

-- the same of a turn for a piece that found the group full
abbrev pub HandsBackAgain : Handed → QueueTurn → Type 0
HandsBackAgain d (again.Flushed reply q) = q ≡ d
HandsBackAgain d (again.Answered reply) = HandsBack d Done reply

-- the queueing found no memory
abbrev pub lacks_memory_again : QueueTurn → Bool
lacks_memory_again (again.Flushed reply d) = false
lacks_memory_again (again.Answered reply) = lacks_memory reply
