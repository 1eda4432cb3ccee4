-- A piece that is handed out may be.
use Rattle.std.proofs.Common.{◌≡◌, ℕ, List, true, sym, ap, ◌∙◌}
use Rattle.std.proofs.lemmas.Bool.{and_parts}
use Rattle.schedule_model.specs.Conflict.{ConflictRelation}
use Rattle.schedule_model.specs.Course.{Course}
use Rattle.machine_model.specs.Moment.{Moment}
use Rattle.machine_model.specs.Calls.{admit_kept}
use Rattle.machine_model.specs.Replies.{Handed, admit_reply, kept_hand, piece}
use Rattle.machine_model.specs.Runs.{goes_on_from, may_be_kept}
use Rattle.machine_model.proofs.CallsKept.{admit-kept}

pub may_be_handed : (table : ConflictRelation) (courses : List Course) (m : Moment) (i : ℕ) (d : Handed) → admit_reply table courses m i ≡ piece d → may_be_kept table courses m (kept_hand d) ≡ true
may_be_handed table courses m i d is = (and_parts (may_be_kept table courses m (kept_hand d)) true (sym (ap (λ r. goes_on_from table courses m (admit_kept r)) is) ∙ admit-kept table courses m i)).0
