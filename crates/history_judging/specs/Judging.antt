-- Whether an event may come, said of the tables that are kept of the history before it.
use Rattle.std.specs.Prelude.{◌≡◌, ◌≤◌, ℕ, ◌+◌, Bool, true, not, ◌&&◌, List, [], ◌∷◌, ◌++◌, drop, length, nat_eq, nat_le, nat_lt}
use Rattle.std.specs.Prelude.{slice_index_or, Option, None, if◌then◌else◌, IsTrue}
use Rattle.std.specs.List.{list_all, list_any, starts_with}
use Rattle.process_tree.specs.declared.entry.Entry.{Entry}
use Rattle.process_tree.specs.declared.plan.Plan.{Plan}
use Rattle.process_tree.specs.Conflicts.{Access, Table, operations_in, same_access}
use Rattle.process_tree.specs.Entries.{access_of}
use Rattle.process_tree.specs.Order.{Each}
use Rattle.process_tree.specs.Recovery.{forward}
use Rattle.process_tree.specs.Shape.{commits, first_of, goes_on_to, is_end, shape_of, IsBranch}
use Rattle.schedule_model.specs.declared.event.Event.{Event}
use Rattle.schedule_model.specs.declared.event.Event.TheVariants.{Start, Act, End}
use Rattle.schedule_model.specs.Conflict.{ConflictRelation}
use Rattle.schedule_model.specs.Course.{Course, course}
use Rattle.schedule_model.specs.Histories.{of_process, same_step, steps_of}
use Rattle.schedule_model.specs.Holdings.{behind}
use Rattle.schedule_model.specs.Laws.{IsGoodPlan}
use Rattle.schedule_model.specs.OwnOrder.{is_of_last}
use Rattle.schedule_rules.specs.Applying.{AreKnown}
use Rattle.history_judging.specs.Conflicting.{conflicts_with_any, any_conflicts, conflicts_in_front, closes_circle}
use Rattle.history_judging.specs.Keeping.{ArePlans, Tables, row_of, is_active_in, started, undone, stepped, ended}
use Rattle.schedule_rules.specs.Recovering.{StandsOnBranch, backward_among, owed_by}

-- the steps that stand of process i
abbrev pub steps_among : List Entry → ℕ → List ℕ
steps_among es i = steps_of (of_process i es)

-- an undo is of the last entry that its process can undo, and no later entry conflicts with it
abbrev pub undo_comes : ConflictRelation → Course → Tables → Entry → Bool
undo_comes table c t e = is_of_last (backward_among c t.net e.process) e && not (conflicts_with_any table e (behind e t.net))

-- a step goes on from what stands of its process, and is at its bound or above
abbrev pub step_goes_on : Course → Tables → Entry → Bool
step_goes_on c t e = goes_on_to c.shape (steps_among t.net e.process) e.step && nat_le (row_of t.processes e.process).bound e.step

-- nothing stands against a step that would be a commit point
abbrev pub commit_is_clear : ConflictRelation → Course → Tables → Entry → Bool
commit_is_clear table c t e =
    not (any_conflicts table (e ∷ owed_by c e.process (forward c.shape (steps_among t.net e.process ++ e.step ∷ [])))
    (t.net ++ t.owed))
    && not (conflicts_in_front table e.process t.net)

-- nothing stands against one that can be undone
abbrev pub undoable_is_clear : ConflictRelation → Tables → Entry → Bool
undoable_is_clear table t e = not (conflicts_with_any table e t.owed) && not (closes_circle table t.net e)

-- nothing stands against a step, by its class
abbrev pub step_is_clear : ConflictRelation → Course → Tables → Entry → Bool
step_is_clear table c t e =
    if list_any (same_step e) t.owed then not (conflicts_with_any table e t.owed)
    else if commits c.shape e.step then commit_is_clear table c t e
    else undoable_is_clear table t e

-- what step b of a process of this course does
abbrev pub step_access : Course → ℕ → Access
step_access c b = record { op = slice_index_or c.ops b 0; key = slice_index_or c.keys b 0 }

-- an entry does what its plan says, and may come
abbrev pub entry_comes : ConflictRelation → Course → Tables → Entry → Bool
entry_comes table c t e =
    same_access (access_of e) (step_access c e.step) &&
    (if e.undo then undo_comes table c t e else (step_goes_on c t e && step_is_clear table c t e))

-- a process of this course is at an end, and nothing stands against that
abbrev pub end_comes : ConflictRelation → Course → Tables → ℕ → Bool
end_comes table c t i = is_end c.shape (steps_among t.net i) && not (conflicts_in_front table i t.net)

-- the step with which a path goes on from these, if it begins with them
abbrev pub step_on : List ℕ → List ℕ → Option ℕ
step_on done path = if starts_with nat_eq path done then first_of (drop (length done) path) else None

-- the event may come
abbrev pub comes : ConflictRelation → List Course → Tables → Event → Bool
comes table courses t (Start i) = nat_eq i (length t.processes + 1)
comes table courses t (Act e) = is_active_in t.processes e.process && entry_comes table (course courses e.process) t e
comes table courses t (End i) = is_active_in t.processes i && end_comes table (course courses i) t i

-- the tables after an event
abbrev pub kept_after : List Course → Tables → Event → Tables
kept_after courses t (Start i) = started (course courses i) t
kept_after courses t (Act e) = if e.undo then undone e t else stepped (course courses e.process) e t
kept_after courses t (End i) = ended i t

-- What is true of the tables of a legal history: each active process has a plan, and what stands of it goes along a whole
-- path; entries are of operations of the table, and of processes that started.
pub record AreReady (table : Table) (plans : List Plan) (t : Tables) : Type 0 where
  pub known : ArePlans table plans
  pub stand : (i : ℕ) → is_active_in t.processes i ≡ true → StandsOnBranch plans t.net i
  pub net_known : AreKnown table t.net
  pub owed_known : AreKnown table t.owed
  pub numbers : Each (λ e. e.process ≤ length t.processes) t.net

-- the same of one process that is active, and has this plan
pub record IsReady (table : Table) (plan : Plan) (t : Tables) (i : ℕ) : Type 0 where
  pub good : IsGoodPlan plan
  pub known : IsTrue (list_all (λ a. nat_lt a (operations_in table)) plan.ops)
  pub going : is_active_in t.processes i ≡ true
  pub branch : IsBranch (shape_of plan.tree) (steps_among t.net i)
  pub net_known : AreKnown table t.net
  pub owed_known : AreKnown table t.owed
  pub numbers : Each (λ e. e.process ≤ length t.processes) t.net
