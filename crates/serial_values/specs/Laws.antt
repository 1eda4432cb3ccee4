-- The law of serial lists, as a statement.
use Rattle.std.specs.Prelude.{◌≡◌, List, IsTrue}
use Rattle.process_tree.specs.declared.entry.Entry.{Entry}
use Rattle.process_tree.specs.declared.plan.Plan.{Plan}
use Rattle.process_tree.specs.Conflicts.{do_conflict, operations_in}
use Rattle.schedule_model.specs.declared.event.Event.{Event}
use Rattle.schedule_model.specs.Completion.{completed}
use Rattle.schedule_model.specs.Course.{courses_of}
use Rattle.schedule_model.specs.Histories.{acts}
use Rattle.schedule_model.specs.Laws.{IsPlanned}
use Rattle.schedule_model.specs.OwnOrder.{is_in_own_order}
use Rattle.schedule_model.specs.Reduction.{AreReduced}
use Rattle.commute_table.specs.Operations.{IsCatalog}
use Rattle.commute_table.specs.declared.catalog.Catalog.{Catalog}
use Rattle.value_conflict.specs.ValueConflict.{IsValueSound}
use Rattle.value_replay.specs.Replays.{AreSteps, books}
use Rattle.replay_run.specs.Printed.{values_lines}

-- Steps to which the schedule of a completed history is brought leave what that leaves, under a catalog that names each conflict
-- in value. The history is in own order; it needn't be legal.
abbrev pub SerialListsLeaveWhatLogsLeave : Type 0
SerialListsLeaveWhatLogsLeave = (c : Catalog) (plans : List Plan) (h : List Event) (steps : List Entry) → IsCatalog c → IsValueSound c
    → IsPlanned (operations_in c.conflicts) plans h → IsTrue (is_in_own_order (courses_of plans) h) → AreSteps steps
    → AreReduced (do_conflict c.conflicts) (acts (completed (courses_of plans) h)) steps
    → values_lines (books c.ops plans steps) ≡ values_lines (books c.ops plans (acts (completed (courses_of plans) h)))
