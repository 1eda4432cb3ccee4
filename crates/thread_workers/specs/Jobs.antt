-- The jobs of workers: a gate, a seat, and in the end why its worker stopped.
use Rattle.std.specs.Prelude.{◌≡◌, ⊤, ℕ, List, [], ◌∷◌, ◌++◌, Option, Some, None}
use Rattle.atomic_table.specs.Seated.{TableId}
use Rattle.process_disk.specs.Disk.{Disk}
use Rattle.resource_box.specs.declared.resource.Resource.{Ghosts as Resources}
use Rattle.machine_model.specs.Replies.{Handed}
use Rattle.process_engine.specs.declared.gates.Answer.{Answer}
use Rattle.engine_calls.specs.GateAnswers.{GateCounts}
use Rattle.worker_gate.specs.declared.alone.RunOutcome.{RunOutcome}
use Rattle.history_lock.specs.declared.desk.Seat.{Seat}
use Rattle.history_lock.specs.declared.held.Held.{Ghosts as Helds}
use Rattle.history_lock.specs.Seats.{desk_of, opening, places, seen, share}
use Rattle.shared_engine.specs.declared.entries.TurnEntry.{TurnEntry}
use Rattle.shared_engine.specs.declared.shared.SharedEngine.{SharedEngine}
use Rattle.shared_engine.specs.Seats.{knowledge}
use Rattle.thread_workers.specs.declared.crew.Job.{Job}
use Rattle.thread_workers.specs.Workers.{HasStopped, WorkerKnows}

abbrev pub or_else : {A B : Type 0} → (A → B) → B → Option A → B
or_else f d None = d
or_else f d (Some a) = f a

module _ {R B G : Type 0} {h : Helds (SharedEngine R B) TurnEntry} where
  -- the share of the job's seat
  abbrev pub job_share : Job (SharedEngine R B) G TurnEntry h → ℕ
  job_share job = or_else (λ s. share s) 0 job.seat

  -- what its seat has seen of the history
  abbrev pub job_seen : Job (SharedEngine R B) G TurnEntry h → List TurnEntry
  job_seen job = or_else (λ s. seen s) [] job.seat

  -- the state with which its desk was opened
  abbrev pub job_opening : Job (SharedEngine R B) G TurnEntry h → Option (SharedEngine R B)
  job_opening job = or_else (λ s. opening s) None job.seat

  -- the entries of its worker, with their places
  abbrev pub job_places : Job (SharedEngine R B) G TurnEntry h → List (ℕ × TurnEntry)
  job_places job = or_else (λ s. places s) [] job.seat

  -- those of all jobs, the last job first
  abbrev pub all_places : List (Job (SharedEngine R B) G TurnEntry h) → List (ℕ × TurnEntry)
  all_places [] = []
  all_places (job ∷ jobs) = all_places jobs ++ job_places job

  -- the same, a list for each job
  abbrev pub all_calls : List (Job (SharedEngine R B) G TurnEntry h) → List (List (ℕ × TurnEntry))
  all_calls [] = []
  all_calls (job ∷ jobs) = all_calls jobs ++ job_places job ∷ []

  -- the gates of all jobs, that of the last job first
  abbrev pub all_gates : List (Job (SharedEngine R B) G TurnEntry h) → List G
  all_gates [] = []
  all_gates (job ∷ jobs) = all_gates jobs ++ job.gate ∷ []

module _ {R B G : Type 0} {h : Helds (SharedEngine R B) TurnEntry} (disk : R → Disk) (box : Resources B)
    (answers : Handed → Option Answer) (counts : G → GateCounts) (desk : TableId) where
  -- the job has a seat of the desk, for a worker with such a gate
  abbrev pub IsReady : Job (SharedEngine R B) G TurnEntry h → Type 0
  IsReady job =
      (s : Seat (SharedEngine R B) TurnEntry h) × (job.seat ≡ Some s) × (desk_of s ≡ desk)
      × WorkerKnows disk box answers 0 (counts job.gate) (counts job.gate) (knowledge s)

  -- its worker has stopped, whose gate had these counts when it began
  abbrev pub IsDoneSince : GateCounts → Job (SharedEngine R B) G TurnEntry h → Type 0
  IsDoneSince begun job =
      (s : Seat (SharedEngine R B) TurnEntry h) × (outcome : RunOutcome) × (job.seat ≡ Some s) × (job.ended ≡ Some outcome)
      × (desk_of s ≡ desk) × WorkerKnows disk box answers 0 begun (counts job.gate) (knowledge s)
      × HasStopped outcome (places s)

  -- its worker has stopped
  abbrev pub IsDone : Job (SharedEngine R B) G TurnEntry h → Type 0
  IsDone job = (begun : GateCounts) × IsDoneSince begun job

  -- its worker made its rounds, and stopped; the seat is of the same desk, and has the share that it had
  abbrev pub HasRun : Job (SharedEngine R B) G TurnEntry h → Job (SharedEngine R B) G TurnEntry h → Type 0
  HasRun before after =
      IsDoneSince (counts before.gate) after × (job_share after ≡ job_share before) × (job_opening after ≡ job_opening before)

  -- so it is of each of these jobs, one by one
  abbrev pub HaveRun : List (Job (SharedEngine R B) G TurnEntry h) → List (Job (SharedEngine R B) G TurnEntry h) → Type 0
  HaveRun [] [] = ⊤
  HaveRun (b ∷ before) (a ∷ after) = HasRun b a × HaveRun before after
  HaveRun before after = ⊥

-- some worker stopped so, by one of these entries
abbrev pub IsStoppedBy : Option RunOutcome → List (ℕ × TurnEntry) → Type 0
IsStoppedBy ended places = (outcome : RunOutcome) × (ended ≡ Some outcome) × HasStopped outcome places
