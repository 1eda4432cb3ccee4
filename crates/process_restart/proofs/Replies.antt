-- What a request for a piece of one process says of it.
use Rattle.std.proofs.Common.{◌≡◌, ℕ, Bool, true, false, List, Option, Some, None, is_some, refl}
use Rattle.std.specs.Bool.{IsTrue}
use Rattle.schedule_model.specs.Conflict.{ConflictRelation}
use Rattle.schedule_model.specs.Course.{Course}
use Rattle.schedule_model.specs.Histories.{is_active, is_in, starts}
use Rattle.machine_model.specs.declared.blocked.Blocked.{Blocked}
use Rattle.machine_model.specs.Moment.{Moment}
use Rattle.machine_model.specs.Pieces.{running_of}
use Rattle.machine_model.specs.Replies.{Admit, piece, blocked, running, unknown, ended, exhausted, admit_by_active, admit_by_known, admit_by_running, admit_by_tries, admit_reply, hand_to, piece_unless}
use Rattle.machine_model.specs.State.{block_of, is_exhausted, next_of}

module _ (table : ConflictRelation) (courses : List Course) (m : Moment) (i : ℕ) where
  -- what each reply says
  abbrev pub Says : Admit → Type 0
  Says (piece d) = IsTrue (is_active m.events i) × (d ≡ hand_to courses m i)
  Says (blocked b) = IsTrue (is_active m.events i) × (block_of table courses m i ≡ Some b)
  Says running = is_some (running_of m i) ≡ true
  Says unknown = is_in i (starts m.events) ≡ false
  Says ended = IsTrue (is_in i (starts m.events)) × (is_active m.events i ≡ false)
  Says (exhausted b) = IsTrue (is_active m.events i) × IsTrue (is_exhausted courses m i) × (b ≡ (next_of courses m i).step)

  by_block : IsTrue (is_active m.events i) → (o : Option Blocked) → block_of table courses m i ≡ o → Says (piece_unless courses m i o)
  by_block goes None at = (goes, refl)
  by_block goes (Some b) at = (goes, at)

  by_tries : IsTrue (is_active m.events i) → (t : Bool) → is_exhausted courses m i ≡ t → Says (admit_by_tries table courses m i t)
  by_tries goes true at = (goes, at, refl)
  by_tries goes false at = by_block goes (block_of table courses m i) refl

  by_running : IsTrue (is_active m.events i) → (t : Bool) → is_some (running_of m i) ≡ t → Says (admit_by_running table courses m i t)
  by_running goes true at = at
  by_running goes false at = by_tries goes (is_exhausted courses m i) refl

  by_active : IsTrue (is_in i (starts m.events)) → (t : Bool) → is_active m.events i ≡ t → Says (admit_by_active table courses m i t)
  by_active known true at = by_running at (is_some (running_of m i)) refl
  by_active known false at = (known, at)

  by_known : (t : Bool) → is_in i (starts m.events) ≡ t → Says (admit_by_known table courses m i t)
  by_known true at = by_active at (is_active m.events i) refl
  by_known false at = at

  -- The reply says so.
  pub says : Says (admit_reply table courses m i)
  says = by_known (is_in i (starts m.events)) refl
