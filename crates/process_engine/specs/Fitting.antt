-- How much there would be with more processes started, and which limit that would pass.
use Rattle.std.specs.Prelude.{◌≡◌, ℕ, ◌+◌, ◌*◌, List, length, nat_lt, if◌then◌else◌, Option, Some, None, refl}
use Rattle.std.proofs.Common.{ap}
use Rattle.std.specs.List.{sum_by}
use Rattle.process_tree.specs.declared.plan.Plan.{Plan}
use Rattle.process_tree.specs.Blocks.{outline}
use Rattle.schedule_model.specs.Course.{course_of}
use Rattle.schedule_model.specs.Histories.{active, starts}
use Rattle.schedule_model.specs.Laws.{IsGoodPlan}
use Rattle.schedule_model.specs.Limits.{entries, most_active, most_entries, most_processes, need}
use Rattle.process_core.specs.Cores.{CoreState, courses_in, history_of}
use Rattle.process_engine.specs.declared.fitting.StartLimit.{StartLimit}
use Rattle.process_engine.specs.declared.fitting.StartLimit.TheVariants.{Processes, Active, Entries}

-- how many acts and ends a process of this plan may need: each of its steps and its undo, and its end
abbrev pub need_of : Plan → ℕ
need_of p = 2 * length (outline p.tree).steps + 1

-- a good plan's course says the same
pub need_of_good : (p : Plan) → IsGoodPlan p → need (course_of p) ≡ need_of p
need_of_good p good = ap (λ n. 2 * n + 1) good.operations

-- how many would have started
abbrev pub processes_with : CoreState → List Plan → ℕ
processes_with core plans = length (starts (history_of core)) + length plans

-- how many would be active
abbrev pub active_with : CoreState → List Plan → ℕ
active_with core plans = length (active (history_of core)) + length plans

-- how many acts and ends would be done and reserved
abbrev pub entries_with : CoreState → List Plan → ℕ
entries_with core plans = entries (courses_in core) (history_of core) + sum_by need_of plans

-- the first of the limits of histories that is passed where so many started, are active, and are done and reserved
abbrev pub first_passed : ℕ → ℕ → ℕ → Option StartLimit
first_passed started active entries =
    if nat_lt most_processes started then Some (Processes started)
    else (if nat_lt most_active active then Some (Active active)
    else (if nat_lt most_entries entries then Some (Entries entries) else None))

-- the first that would be passed, with the number that there would be
abbrev pub limit_passed : CoreState → List Plan → Option StartLimit
limit_passed core plans = first_passed (processes_with core plans) (active_with core plans) (entries_with core plans)

-- 31 processes of 256 steps and one of 240 need as many acts and ends as there may be
all_room_taken : first_passed 32 32 (31 * 513 + 481) ≡ None
all_room_taken = refl

-- with one more process of one step there is no room
one_step_more : first_passed 33 33 (31 * 513 + 481 + 3) ≡ Some (Entries 16387)
one_step_more = refl

-- how many start is looked at before how many are active, and that before what they need
first_of_three : first_passed 4097 257 16385 ≡ Some (Processes 4097)
first_of_three = refl

first_of_two : first_passed 4096 257 16385 ≡ Some (Active 257)
first_of_two = refl
