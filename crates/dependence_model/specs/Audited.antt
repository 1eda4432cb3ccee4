-- What an audit answers.
use Rattle.std.specs.Prelude.{◌≡◌, ◌<◌, ◌≤◌, ◌⊎◌, ℕ, false, List, [], ◌∷◌, ◌++◌, length, take, IsTrue}
use Rattle.process_tree.specs.declared.entry.Entry.{Entry}
use Rattle.schedule_model.specs.declared.event.Event.{Event}
use Rattle.schedule_model.specs.Course.{Course}
use Rattle.schedule_model.specs.Conflict.{ConflictRelation}
use Rattle.schedule_model.specs.Completion.{completed}
use Rattle.schedule_model.specs.Graph.{Arrow, leads}
use Rattle.schedule_model.specs.Histories.{acts}
use Rattle.schedule_model.specs.Reduction.{AreReduced, is_serial}

-- exchanges and cancels lead from these entries to a serial list
abbrev pub CanReduce : ConflictRelation → List Entry → Type 0
CanReduce table es = (serial : List Entry) × AreReduced table es serial × IsTrue (is_serial serial)

-- the schedule of a history once it is completed
abbrev pub completed_schedule : List Course → List Event → List Entry
completed_schedule courses h = acts (completed courses h)

-- a history is prefix reducible: wherever it is cut off, what it is completed to can be reduced
abbrev pub IsPrefixReducible : ConflictRelation → List Course → List Event → Type 0
IsPrefixReducible table courses h = (g rest : List Event) → h ≡ g ++ rest → CanReduce table (completed_schedule courses g)

-- its first n events are the least beginning that can't be reduced
pub record IsFirstFailing (table : ConflictRelation) (courses : List Course) (h : List Event) (n : ℕ) : Type 0 where
  pub within : n ≤ length h
  pub fails : CanReduce table (completed_schedule courses (take n h)) → ⊥
  pub before : (m : ℕ) → m < n → CanReduce table (completed_schedule courses (take m h))

-- arrows lead from i to each of these in turn, and then to the first
abbrev pub ComesBack : Arrow → ℕ → ℕ → List ℕ → Type 0
ComesBack arrow first i [] = IsTrue (arrow i first)
ComesBack arrow first i (k ∷ ks) = IsTrue (arrow i k) × ComesBack arrow first k ks

-- one list of numbers stands before another of the same length where they first differ
abbrev pub StandsBefore : List ℕ → List ℕ → Type 0
StandsBefore [] ys = ⊥
StandsBefore (x ∷ xs) [] = ⊥
StandsBefore (x ∷ xs) (y ∷ ys) = (x < y) ⊎ ((x ≡ y) × StandsBefore xs ys)

-- The cycle that is told: it begins with the least process to which a walk comes back, has the fewest arrows of those that
-- begin there, and is the least of these.
pub record IsToldCycle (arrow : Arrow) (all cycle : List ℕ) : Type 0 where
  pub first : ℕ
  pub others : List ℕ
  pub is : cycle ≡ first ∷ others
  pub comes_back : ComesBack arrow first first others
  pub least_process : (i : ℕ) → i < first → leads arrow all i i ≡ false
  pub fewest : (ks : List ℕ) → ComesBack arrow first first ks → length others ≤ length ks
  pub least : (ks : List ℕ) → ComesBack arrow first first ks → length ks ≡ length others → StandsBefore ks others → ⊥
