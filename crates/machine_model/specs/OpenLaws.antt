-- What open processes hold is enough: an ended one blocks nobody and goes back with nobody, as statements over sessions.
use Rattle.std.specs.Prelude.{◌≡◌, ℕ, not, List, filter, nat_eq, IsTrue, Some}
use Rattle.process_tree.specs.declared.plan.Plan.{Plan}
use Rattle.schedule_model.specs.Conflict.{ConflictRelation}
use Rattle.schedule_model.specs.Histories.{is_active}
use Rattle.schedule_model.specs.Holdings.{Holdings}
use Rattle.machine_model.specs.declared.kept.Kept.TheVariants.{Effect}
use Rattle.machine_model.specs.declared.kept.Work.TheVariants.{End}
use Rattle.machine_model.specs.Cascade.{cascade}
use Rattle.machine_model.specs.Pieces.{piece_of}
use Rattle.machine_model.specs.State.{against_task, against_work, holdings, next_of, pending_of}
use Rattle.machine_model.specs.Advance.{Machine, advance, cascade_of}
use Rattle.machine_model.specs.Runs.{history, is_run, may_be_kept, now}
use Rattle.machine_model.specs.Laws.{IsSession, open_only}

-- Against the next piece of an active process stands the same by what the open processes hold alone as by all, and the same go
-- back with it.
abbrev pub OpenHoldingsAreEnough : Type 0
OpenHoldingsAreEnough = (table : ConflictRelation) (plans : List Plan) (s : Machine) (i : ℕ) → IsSession table plans s
    → IsTrue (is_active (history table s) i)
    → let m = now table s in
    let g = open_only (holdings s.courses m) in
    let t = next_of s.courses m i in
    (against_work table s.courses g m.events i t.step t.work ≡ against_task table s.courses m i t)
    × (cascade table g i (pending_of s.courses m i) ≡ cascade_of table s.courses m i)

-- without what process k has in the net and holds
abbrev pub without_process : ℕ → Holdings → Holdings
without_process k g = record {
  net = filter (λ e. not (nat_eq e.process k)) g.net;
  holds = filter (λ o. not (nat_eq o.process k)) g.holds;
}

-- At the effect of its end a process is dropped from what the open processes hold, and all else stays.
abbrev pub EndsDropHoldings : Type 0
EndsDropHoldings = (table : ConflictRelation) (s : Machine) (n number i b : ℕ) → IsTrue (is_run table s)
    → IsTrue (may_be_kept table s.courses (now table s) (Effect n))
    → piece_of s.kept n ≡ Some (record { number = number; process = i; step = b; work = End })
    → let m = now table s in
    open_only (holdings s.courses (advance table s.courses m (Effect n))) ≡ without_process i (open_only (holdings s.courses m))
