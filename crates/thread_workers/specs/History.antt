-- What a whole run of workers leaves.
use Rattle.std.specs.Prelude.{◌≡◌, ◌<◌, ⊤, ℕ, List, [], ◌∷◌, ◌++◌, length, Option}
use Rattle.process_disk.specs.declared.rack.Rack.{Ghosts as Racks}
use Rattle.process_tree.specs.Order.{Each}
use Rattle.resource_box.specs.declared.resource.Resource.{Ghosts as Resources}
use Rattle.machine_model.specs.Replies.{Handed}
use Rattle.process_core.specs.Cores.{CoreState}
use Rattle.engine_steps.specs.Engines.{EngineState}
use Rattle.process_engine.specs.declared.gates.Answer.{Answer}
use Rattle.engine_calls.specs.GateAnswers.{GateCounts}
use Rattle.worker_gate.specs.ManyGates.{AskedGates}
use Rattle.history_lock.specs.Weights.{weigh, weigh_from, AllStand}
use Rattle.shared_engine.specs.declared.entries.TurnEntry.{TurnEntry}
use Rattle.shared_engine.specs.declared.shared.SharedEngine.{SharedEngine}
use Rattle.shared_engine.specs.Shared.{AreOf}
use Rattle.thread_workers.specs.Workers.{AreWorked, IsTally}

-- the lists one after another
abbrev pub flat : {A : Type 0} → List (List A) → List A
flat [] = []
flat (xs ∷ xss) = xs ++ flat xss

-- the places go up, from above low on
abbrev pub ComesInOrder : {X : Type 0} → ℕ → List (ℕ × X) → Type 0
ComesInOrder low [] = ⊤
ComesInOrder low (p ∷ ps) = (low < p.0) × ComesInOrder p.0 ps

-- The calls of one worker with their places in the history: they stand there, in the worker's own order; and each piece that it
-- queued was handed out, and worked on by its gate.
abbrev pub AreOfWorker : (Handed → Option Answer) → CoreState → List TurnEntry → List (ℕ × TurnEntry) → Type 0
AreOfWorker answers c history calls = AllStand history calls × ComesInOrder 0 calls × AreWorked answers c calls

-- the gate of each worker has its counts by the worker's calls
abbrev pub AreTallied : CoreState → List (List (ℕ × TurnEntry)) → List GateCounts → List GateCounts → Type 0
AreTallied c [] [] [] = ⊤
AreTallied c (own ∷ calls) (b ∷ before) (a ∷ after) = IsTally 0 c own b a × AreTallied c calls before after
AreTallied c calls before after = ⊥

-- One list of calls led from one engine to another, and each of its places is that of a call which one of the workers made, once.
-- Each worker has one of the gates, in their order.
pub record IsOneHistory {R B : Type 0} (racks : Racks R) (box : Resources B)
    (gates : AskedGates) (o x : EngineState R B) : Type 0 where
  pub history : List TurnEntry
  -- the engine that comes back, with what is queued at it in the end
  pub last : SharedEngine R B
  pub engine : last.engine ≡ x
  pub led : AreOf racks box o history last
  -- the calls of each worker
  pub calls : List (List (ℕ × TurnEntry))
  pub workers : length calls ≡ length gates.before
  pub each : Each (AreOfWorker gates.answers x.core history) calls
  pub tallies : AreTallied x.core calls gates.before gates.after
  -- however places and entries are weighed, the calls of all workers weigh what the history weighs
  pub once : (h : ℕ → TurnEntry → ℕ) → weigh h (flat calls) ≡ weigh_from h 0 history
