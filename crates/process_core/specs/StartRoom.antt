-- StartRoom: the room that is taken for a process before it starts.
use Rattle.std.specs.Prelude.{◌≡◌, ◌<◌, ◌+◌, ℕ, length, None}
use Rattle.process_tree.specs.declared.plan.Plan.{Plan}
use Rattle.process_tree.specs.Conflicts.{operations_in}
use Rattle.process_tree.specs.Order.{Each}
use Rattle.schedule_model.specs.Course.{course_of}
use Rattle.schedule_model.specs.Laws.{IsGoodPlan}
use Rattle.machine_model.specs.Runs.{start_refusal}
use Rattle.hold_tables.specs.Spare.{IsRoomIn, SpareRoom}
use Rattle.core_state.specs.Cores.{CoreState, courses_in, moment_of}
use Rattle.core_state.specs.OpenTables.{tables_of}
use Rattle.core_state.specs.Room.{kept_for, room_of}

pub record StartRoomState : Type 0 where
  -- whose process is to start
  pub plan : Plan
  -- how many events there is room to keep
  pub kept : ℕ
  -- how many processes there is room for
  pub processes : ℕ
  -- the room in the tables of holds
  pub tables : SpareRoom

-- a process of the plan can start in this core, and there is room for all that it can need beside what the core has
pub record IsRoomFor (c : CoreState) (r : StartRoomState) : Type 0 where
  pub good : IsGoodPlan r.plan
  pub known : Each (λ op. op < operations_in c.conflicts) r.plan.ops
  -- nothing refuses it
  pub free : start_refusal (courses_in c) (moment_of c) (course_of r.plan) ≡ None
  pub kept : r.kept ≡ room_of c + kept_for (course_of r.plan)
  pub processes : length c.plans < r.processes
  pub tables : IsRoomIn (tables_of c.conflicts (courses_in c) (moment_of c)) r.tables
