-- What a worker's seat knows from round to round, and why the worker stops.
use Rattle.std.specs.Prelude.{◌≡◌, ◌⊎◌, ◌+◌, ◌-◌, ◌^◌, ◌<◌, ◌≤◌, ⊤, ℕ, List, [], ◌∷◌, ◌++◌, length, Option, Some, if◌then◌else◌}
use Rattle.process_flow.specs.Causes.{Rose}
use Rattle.process_disk.specs.Disk.{Disk}
use Rattle.process_tree.specs.Order.{Each}
use Rattle.resource_box.specs.declared.resource.Resource.{Ghosts as Resources}
use Rattle.machine_model.specs.Replies.{Handed}
use Rattle.process_core.specs.Cores.{CoreState}
use Rattle.process_engine.specs.declared.gates.Answer.{Answer}
use Rattle.process_engine.specs.declared.gates.Answer.TheVariants.{Refused}
use Rattle.engine_calls.specs.GateAnswers.{GateCounts, IsHandedAs, count_after}
use Rattle.worker_gate.specs.declared.alone.RunOutcome.{RunOutcome}
use Rattle.worker_gate.specs.declared.alone.RunOutcome.TheVariants.{AllEnded, Stuck, DiskFault, NoMemory}
use Rattle.history_lock.specs.Weights.{weigh}
use Rattle.history_lock.specs.declared.view.View.{View}
use Rattle.shared_engine.specs.declared.entries.NextSaid.TheVariants as asked
use Rattle.shared_engine.specs.declared.entries.FlushSaid.TheVariants as flushed
use Rattle.shared_engine.specs.declared.entries.QueueSaid.TheVariants as put
use Rattle.shared_engine.specs.declared.entries.TurnEntry.{TurnEntry}
use Rattle.shared_engine.specs.declared.entries.TurnEntry.TheVariants.{Next, Queue, Flush}
use Rattle.shared_engine.specs.declared.shared.SharedEngine.{SharedEngine}
use Rattle.shared_engine.specs.Seats.{HasOpened, core_at}
use Rattle.shared_engine.specs.Tallies.{IsAnswerTo, IsOfHanded, gate_asked, gate_refused, is_worked_on}

-- the list has x
abbrev pub Has : {X : Type 0} → X → List X → Type 0
Has {X} x xs = (before : List X) × (rest : List X) × (xs ≡ before ++ x ∷ rest)

-- the second list goes on from the first
abbrev pub IsBeginning : {X : Type 0} → List X → List X → Type 0
IsBeginning {X} xs ys = (more : List X) × (xs ++ more ≡ ys)

-- the places go up, the first of them above low and the last at most high
abbrev pub GoesUp : {X : Type 0} → ℕ → List (ℕ × X) → ℕ → Type 0
GoesUp low [] high = low ≤ high
GoesUp low (p ∷ ps) high = (low < p.0) × GoesUp p.0 ps high

-- an entry of a worker with such a gate: a piece that it got was handed out; who queues a piece had got it from the engine, and
-- answers what came of its work
abbrev pub IsWorked : (Handed → Option Answer) → CoreState → TurnEntry → Type 0
IsWorked answers c (Next said) = IsOfHanded c (Next said)
IsWorked answers c (Queue n answer reply) = (d : Handed) × (d.piece.number ≡ n) × IsHandedAs c d × IsAnswerTo answers d answer
IsWorked answers c (Flush said) = ⊤

-- each of these is one
abbrev pub AreWorked : (Handed → Option Answer) → CoreState → List (ℕ × TurnEntry) → Type 0
AreWorked answers c = Each (λ p. IsWorked answers c p.1)

-- how often a gate is asked for a piece: once, and not at all for the end of a process
abbrev pub asks_for : Handed → ℕ
asks_for d = if is_worked_on (Some d.piece) then 1 else 0

-- for how many pieces among those that a worker got a gate is asked
abbrev pub asks_in : CoreState → List (ℕ × TurnEntry) → ℕ
asks_in c calls = weigh (λ n e. gate_asked c e) calls

-- how many pieces it queued whose work was refused
abbrev pub refused_in : List (ℕ × TurnEntry) → ℕ
refused_in calls = weigh (λ n e. gate_refused e) calls

-- A gate was asked for a piece, unless this ends a process, and counted a refusal.
pub record HasAnswered (d : Handed) (answer : Answer) (old new : GateCounts) : Type 0 where
  pub asked : new.asked ≡ count_after old.asked (asks_for d)
  pub later : old.refusals ≤ new.refusals
  pub counted : answer ≡ Refused → Rose old.refusals new.refusals

-- The counts of a worker's gate by the worker's calls, since it had the first counts: it was asked once for each step and undo that
-- the worker got, but for so many of the last that it is still to be asked for; and it counted each refusal.
pub record IsTally (owed : ℕ) (c : CoreState) (calls : List (ℕ × TurnEntry)) (before after : GateCounts) : Type 0 where
  pub times : ℕ
  pub got : asks_in c calls ≡ times + owed
  pub asked : after.asked ≡ count_after before.asked times
  pub counted : after.refusals < 2 ^ 64 - 1 → before.refusals + refused_in calls ≤ after.refusals
  pub later : before.refusals ≤ after.refusals

module _ {R B : Type 0} where
  -- the piece was handed out, by what the seat has seen
  abbrev pub HasGot : Handed → View (SharedEngine R B) TurnEntry → Type 0
  HasGot d v = (o : SharedEngine R B) → v.opening ≡ Some o → IsHandedAs (core_at o.engine v.seen) d

  -- What a worker's seat knows: how the engine was opened; its own entries came in the order in which it saw the history grow;
  -- each piece that it queued was worked on; and the gate, which had the first counts at first, has these now by the worker's
  -- entries.
  pub record WorkerKnows (disk : R → Disk) (box : Resources B) (answers : Handed → Option Answer) (owed : ℕ)
      (begun now : GateCounts) (v : View (SharedEngine R B) TurnEntry) : Type 0 where
    pub opened : HasOpened disk box v
    pub order : GoesUp 0 v.places (length v.seen)
    pub worked : AreWorked answers (core_at opened.opening.engine v.seen) v.places
    pub tally : IsTally owed (core_at opened.opening.engine v.seen) v.places begun now

-- The entry is why a worker stops: it was told so, or its own call failed. Whoever lacks memory, or hears that another did, stops
-- too.
abbrev pub Stops : RunOutcome → TurnEntry → Type 0
Stops AllEnded e = e ≡ Next asked.AllEnded
Stops (Stuck i) e = e ≡ Next (asked.Stuck i)
Stops DiskFault (Next said) = (k : ℕ) × (said ≡ asked.Closed k)
Stops DiskFault (Queue n answer reply) = (k : ℕ) × (reply ≡ put.Closed k)
Stops DiskFault (Flush said) = (said ≡ flushed.DiskFault) ⊎ ((k : ℕ) × (said ≡ flushed.Closed k))
Stops NoMemory e = ⊤

-- a worker stopped by one of its own entries
abbrev pub HasStopped : RunOutcome → List (ℕ × TurnEntry) → Type 0
HasStopped outcome places = (p : ℕ × TurnEntry) × Has p places × Stops outcome p.1
