-- What the queueing of a piece and a flush say as turns of the machine.
use Rattle.std.specs.Prelude.{ℕ, Bool, true, false, List, length}
use Rattle.process_tree.specs.declared.play.Outcome.{Outcome}
use Rattle.process_tree.specs.declared.play.Outcome.TheVariants as outcome
use Rattle.machine_model.specs.Groups.{Ended, GroupEnd, Queue as Reply, dropped_at_event, effected, kept_for_ended}
use Rattle.machine_model.specs.Turns.{Said, says, no_memory, disk_fault, is_closed}
use Rattle.process_engine.specs.declared.gates.Answer.{Answer}
use Rattle.process_engine.specs.declared.gates.Answer.TheVariants.{Done, Refused}
use Rattle.process_engine.specs.declared.group.Flush.{Flush}
use Rattle.process_engine.specs.declared.group.Flush.TheVariants as flush
use Rattle.process_engine.specs.declared.replies.Queue.{Queue}
use Rattle.process_engine.specs.declared.replies.Queue.TheVariants as queue

-- the outcome of a piece as its gate answers it
abbrev pub outcome_as : Answer → Outcome
outcome_as Done = outcome.Done
outcome_as Refused = outcome.Refused

-- what a queueing that is answered so says, where this is the machine's reply
abbrev pub queue_says : Queue → Reply → Said Reply
queue_says queue.Queued reply = says reply
queue_says (queue.Full p) reply = says reply
queue_says (queue.Retry k) reply = says reply
queue_says queue.Failed reply = says reply
queue_says queue.Over reply = says reply
queue_says (queue.Dropped k) reply = says reply
queue_says queue.Exhausted reply = says reply
queue_says (queue.NoMemory p) reply = no_memory
queue_says (queue.Closed n) reply = is_closed n

-- it took effect
abbrev pub took_effect : GroupEnd → Bool
took_effect (effected n) = true
took_effect (dropped_at_event k) = false

-- how many pieces of a group took effect: each that did keeps one event
abbrev pub effects_in : List Ended → ℕ
effects_in ends = length (kept_for_ended ends)

-- what a flush that is answered so says: how many pieces took effect
abbrev pub flush_says : Flush → Said ℕ
flush_says (flush.Flushed ends) = says (effects_in ends)
flush_says flush.DiskFault = disk_fault
flush_says (flush.Closed n) = is_closed n
