-- The states that a process can come to, and the laws of one process, as statements.
use Rattle.std.specs.Prelude.{◌≡◌, ◌≢◌, ◌≤◌, ◌<◌, ℕ, true, false, List, [], Some, None}
use Rattle.process_tree.specs.declared.entry.Entry.{Entry}
use Rattle.process_tree.specs.Laws.{IsTreeShape}
use Rattle.process_tree.specs.Shape.{Shape, can_be_refused, first_of, fixed_len, goes_on_to, is_whole, kind_of}
use Rattle.process_tree.specs.Recovery.{class_of, forward, reserved}
use Rattle.process_tree.specs.Termination.{IsWellFormed}
use Rattle.schedule_model.specs.Course.{Course}
use Rattle.machine_model.specs.declared.kept.Work.TheVariants.{Forward}
use Rattle.machine_model.specs.Progress.{pending_steps, staying, way_on}
use Rattle.machine_model.specs.ProcessState.{ProcessState, begun, effected, next_piece, opening_state, todo, was_refused}
use Rattle.instance_state.specs.Instances.{is_piece}
use Rattle.instance_state.specs.OwnActs.{are_in_own_order}

-- a process of this course can come to this state: it opened with acts in own order, and then its pieces took effect or were
-- refused, and it began to complete
pub data IsReached (c : Course) : ProcessState → Type 0 where
  opened : (acts : List Entry) → are_in_own_order c.shape acts ≡ true → IsReached c (opening_state c acts)
  took_effect : (s : ProcessState) → IsReached c s → is_piece (todo c s) ≡ true → IsReached c (effected s)
  had_refusal : (s : ProcessState) → IsReached c s → is_piece (todo c s) ≡ true → IsReached c (was_refused s)
  completing : (s : ProcessState) → IsReached c s → IsReached c (begun s)

-- a course of a well-formed process
pub record IsGoodCourse (c : Course) : Type 0 where
  pub tree : IsTreeShape c.shape
  pub well_formed : IsWellFormed c.shape

-- What is pending is a tail of what can be undone: all that is fixed stays.
abbrev pub PendingCanBeUndone : Type 0
PendingCanBeUndone = (c : Course) → IsGoodCourse c → (s : ProcessState) → IsReached c s
    → fixed_len s.progress.shape s.progress.net ≤ staying s.progress

-- After a step took effect, nothing is pending.
abbrev pub NothingPendingAfterStep : Type 0
NothingPendingAfterStep = (c : Course) → IsGoodCourse c → (s : ProcessState) → IsReached c s → (next_piece s).work ≡ Forward
    → pending_steps (effected s).progress ≡ []

-- The first step that it owes is above each step that was done or refused.
abbrev pub OwedIsAbove : Type 0
OwedIsAbove = (c : Course) → IsGoodCourse c → (s : ProcessState) → IsReached c s → (d : ℕ)
    → first_of (forward s.progress.shape s.progress.net) ≡ Some d
    → s.progress.onward ≤ d

-- With a commit point, before it begins to complete or has done a whole path, it has a way on.
abbrev pub CommittedHasWayOn : Type 0
CommittedHasWayOn = (c : Course) → IsGoodCourse c → (s : ProcessState) → IsReached c s
    → 0 < fixed_len s.progress.shape s.progress.net
    → s.progress.begun ≡ false → is_whole s.progress.shape s.progress.net ≡ false → way_on s.progress ≢ None

-- Once it has begun to complete, it does only steps that can't be refused.
abbrev pub BegunIsNotRefused : Type 0
BegunIsNotRefused = (c : Course) → IsGoodCourse c → (s : ProcessState) → IsReached c s → s.progress.begun ≡ true
    → (next_piece s).work ≡ Forward
    → can_be_refused (kind_of c.shape (next_piece s).step) ≡ false

-- A reserved step uses no outcome.
abbrev pub ReservedUsesNoOutcome : Type 0
ReservedUsesNoOutcome = (t : Shape) → IsTreeShape t → IsWellFormed t → (w : List ℕ) (d : ℕ) → goes_on_to t w d ≡ true
    → class_of t w d ≡ reserved
    → can_be_refused (kind_of t d) ≡ false
