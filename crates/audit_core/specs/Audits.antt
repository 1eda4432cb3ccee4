-- What an audit answers of a history.
use Rattle.std.specs.Prelude.{◌≡◌, ◌⊎◌, ◌<◌, ◌≤◌, ℕ, true, false, List, length, take}
use Rattle.process_tree.specs.declared.entry.Entry.{Entry}
use Rattle.schedule_model.specs.declared.event.Event.{Event}
use Rattle.schedule_model.specs.Course.{Course}
use Rattle.schedule_model.specs.Conflict.{ConflictRelation}
use Rattle.dependence_model.specs.declared.placed.Placed.{Placed}
use Rattle.dependence_model.specs.Dependence.{left_of, is_barred, is_cyclic, must_precede, processes_of}
use Rattle.dependence_model.specs.SerialOrder.{serial_list}
use Rattle.dependence_model.specs.Audited.{CanReduce, IsFirstFailing, IsPrefixReducible, IsToldCycle, completed_schedule}
use Rattle.audit_core.specs.declared.judging.Audited.{Audited}
use Rattle.audit_core.specs.declared.judging.Audited.TheVariants.{Reducible, Barred, Cycle}

-- an undo is left of these entries, and this is left
pub record IsBarred (table : ConflictRelation) (es : List Entry) (left : List Placed) : Type 0 where
  pub barred : is_barred table es ≡ true
  pub is : left ≡ left_of table es

-- no undo is left of them, but some process would have to come before itself; this is left, and this cycle is told
pub record IsCyclic (table : ConflictRelation) (es : List Entry) (left : List Placed) (processes : List ℕ) : Type 0 where
  pub not_barred : is_barred table es ≡ false
  pub cyclic : is_cyclic table es ≡ true
  pub is : left ≡ left_of table es
  pub cycle : IsToldCycle (must_precede table (left_of table es)) (processes_of (left_of table es)) processes

-- how many events an audit takes
abbrev pub most_events : ℕ
most_events = 128

-- the schedule of the first n events, once they are completed
abbrev pub schedule_at : List Course → List Event → ℕ → List Entry
schedule_at courses h n = completed_schedule courses (take n h)

-- the serial list to which the schedule of the whole is brought, once it is completed
abbrev pub serial_schedule : ConflictRelation → List Course → List Event → List Entry
serial_schedule table courses h = serial_list table (completed_schedule courses h)

-- The audit of a history: each of its beginnings can be reduced, and the serial list of the whole is told; or of the least that
-- can't be reduced it is told what is left, and the cycle where nothing is barred.
abbrev pub IsAudit : ConflictRelation → List Course → List Event → Audited → Type 0
IsAudit table courses h (Reducible serial) = IsPrefixReducible table courses h × (serial.items ≡ serial_schedule table courses h)
IsAudit table courses h (Barred prefix left) = IsFirstFailing table courses h prefix × IsBarred table (schedule_at courses h prefix) left.items
IsAudit table courses h (Cycle prefix left processes) =
    IsFirstFailing table courses h prefix × IsCyclic table (schedule_at courses h prefix) left.items processes.items

-- these entries fail, the schedule of n events
abbrev pub IsFailing : ConflictRelation → List Entry → ℕ → Audited → Type 0
IsFailing table es n (Reducible serial) = ⊥
IsFailing table es n (Barred prefix left) = (prefix ≡ n) × IsBarred table es left.items
IsFailing table es n (Cycle prefix left processes) = (prefix ≡ n) × IsCyclic table es left.items processes.items

-- what is found once these entries are judged, too
abbrev pub NowFound : ConflictRelation → List Entry → ℕ → Audited → Audited → Type 0
NowFound table es n before now =
    ((is_barred table es ≡ false) × (is_cyclic table es ≡ false) × (now ≡ before)) ⊎ IsFailing table es n now

-- of the beginnings with this many events or more, this is the least that can't be reduced
pub record IsLeastFrom (table : ConflictRelation) (courses : List Course) (h : List Event) (from n : ℕ) : Type 0 where
  pub above : from ≤ n
  pub within : n ≤ length h
  pub before : (m : ℕ) → from ≤ m → m < n → CanReduce table (schedule_at courses h m)

-- what is found of the beginnings with this many events or more
abbrev pub IsFoundFrom : ConflictRelation → List Course → List Event → ℕ → Audited → Type 0
IsFoundFrom table courses h from (Reducible serial) =
    ((m : ℕ) → from ≤ m → m ≤ length h → CanReduce table (schedule_at courses h m)) × (serial.items ≡ serial_schedule table courses h)
IsFoundFrom table courses h from (Barred prefix left) =
    IsLeastFrom table courses h from prefix × IsBarred table (schedule_at courses h prefix) left.items
IsFoundFrom table courses h from (Cycle prefix left processes) =
    IsLeastFrom table courses h from prefix × IsCyclic table (schedule_at courses h prefix) left.items processes.items
