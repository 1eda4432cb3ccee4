-- The laws of histories, as statements.
use Rattle.std.specs.Prelude.{◌≡◌, ℕ, ◌+◌, ◌*◌, ◌≤◌, false, not, List, [], ◌∷◌, ◌++◌, length, take, flat_map, nat_lt, IsTrue, Some}
use Rattle.std.specs.Prelude.{None}
use Rattle.std.specs.List.{Contains, list_any, list_all}
use Rattle.process_tree.specs.Entries.{access_of}
use Rattle.process_tree.specs.declared.entry.Entry.{Entry}
use Rattle.process_tree.specs.declared.plan.Plan.{Plan}
use Rattle.process_tree.specs.Blocks.{outline}
use Rattle.process_tree.specs.Shape.{shape_of, kind_of, can_be_refused}
use Rattle.process_tree.specs.Play.{arrive, go_on}
use Rattle.process_tree.specs.Making.{tree_fault}
use Rattle.process_tree.specs.Termination.{IsWellFormed}
use Rattle.process_tree.specs.Recovery.{StepClass, reserved, committing, undoable}
use Rattle.schedule_model.specs.declared.event.Event.{Event}
use Rattle.schedule_model.specs.declared.event.Event.TheVariants.{Act}
use Rattle.schedule_model.specs.declared.trace_step.TraceStep.{TraceStep}
use Rattle.schedule_model.specs.Course.{Course, course, courses_of, shape, access_at}
use Rattle.schedule_model.specs.Conflict.{ConflictRelation, IsSymmetric, conflict}
use Rattle.schedule_model.specs.Histories.{acts, starts, ends, active, is_active, is_in, net, net_of, net_steps, of_process}
use Rattle.schedule_model.specs.Histories.{outlives, same_step, doing}
use Rattle.schedule_model.specs.Recovery.{backward_entries, owed, owed_after}
use Rattle.schedule_model.specs.Completion.{completed}
use Rattle.schedule_model.specs.OwnOrder.{goes_on, is_at_end, is_in_own_order}
use Rattle.schedule_model.specs.Limits.{Limits, keeps_limits, stands_within}
use Rattle.schedule_model.specs.Holdings.{Holdings, at_rest, behind, of_active, reaches}
use Rattle.schedule_model.specs.Blocking.{against_step, against_undo, against_end}
use Rattle.schedule_model.specs.Legal.{class_in, first_illegal, is_legal, is_reducible, may_come}
use Rattle.schedule_model.specs.Reduction.{AreReduced, applied_all, is_serial}
use Rattle.schedule_model.specs.PrintedTrace.{trace_of}

-- a plan is of a tree as the making of trees lets it through, is well-formed, and has an operation for each step
pub record IsGoodPlan (p : Plan) : Type 0 where
  pub tree : tree_fault p.tree ≡ None
  pub well_formed : IsWellFormed (shape_of p.tree)
  pub operations : length p.ops ≡ length (outline p.tree).steps

-- each of these plans is
abbrev pub AreGood : List Plan → Type 0
AreGood plans = (p : Plan) → Contains plans p → IsGoodPlan p

-- What every call asks of a history that comes in: good plans, one for each process that started, with operations that a
-- table of so many operations has.
pub record IsPlanned (operations : ℕ) (plans : List Plan) (h : List Event) : Type 0 where
  pub good : AreGood plans
  pub one_each : length plans ≡ length (starts h)
  pub known : (p : Plan) → Contains plans p → IsTrue (list_all (λ a. nat_lt a operations) p.ops)

-- a legal history over good plans, one for each process that started
pub record IsGood (table : ConflictRelation) (plans : List Plan) (h : List Event) : Type 0 where
  pub symmetric : IsSymmetric table
  pub good : AreGood plans
  pub one_each : length plans ≡ length (starts h)
  pub legal : IsTrue (is_legal table (courses_of plans) h)

-- Beginnings.

-- the plans of those that started in g
abbrev pub plans_in : List Plan → List Event → List Plan
plans_in plans g = take (length (starts g)) plans

-- Prefix law: each beginning of a legal history is legal, with the plans of those that started in it.
abbrev pub PrefixLaw : Type 0
PrefixLaw = (table : ConflictRelation) (plans : List Plan) (g k : List Event) → IsGood table plans (g ++ k)
    → IsGood table (plans_in plans g) g

-- Each beginning of a history has what every call asks, with the plans of those that started in it.
abbrev pub BeginningsArePlanned : Type 0
BeginningsArePlanned = (operations : ℕ) (plans : List Plan) (g k : List Event) → IsPlanned operations plans (g ++ k)
    → IsPlanned operations (plans_in plans g) g

-- what is said of the first event that may not come: there is none exactly where the history is legal, and what stands
-- before it is legal
pub record FirstIllegal (table : ConflictRelation) (courses : List Course) (h : List Event) : Type 0 where
  pub none : first_illegal table courses h ≡ None → IsTrue (is_legal table courses h)
  pub legal : IsTrue (is_legal table courses h) → first_illegal table courses h ≡ None
  pub first : (n : ℕ) → first_illegal table courses h ≡ Some n → (g : List Event) × (e : Event) × (k : List Event)
      × (h ≡ g ++ e ∷ k) × (n ≡ length g + 1) × IsTrue (is_legal table courses g) × (may_come table courses g e ≡ false)

abbrev pub FirstIllegalIsExact : Type 0
FirstIllegalIsExact = (table : ConflictRelation) (courses : List Course) (h : List Event) → FirstIllegal table courses h

-- Limits.

-- Each beginning of a history within limits is within them.
abbrev pub BeginningsKeepLimits : Type 0
BeginningsKeepLimits = (l : Limits) (courses : List Course) (g k : List Event) → IsTrue (keeps_limits l courses (g ++ k))
    → IsTrue (keeps_limits l courses g)

-- Of a legal one it is so with the plans of those that started in it alone.
abbrev pub LimitsOfBeginnings : Type 0
LimitsOfBeginnings = (l : Limits) (table : ConflictRelation) (plans : List Plan) (g k : List Event) → IsGood table plans (g ++ k)
    → IsTrue (keeps_limits l (courses_of plans) (g ++ k)) → IsTrue (keeps_limits l (courses_of (plans_in plans g)) g)

-- Completion of a history within limits is within them.
abbrev pub CompletionKeepsLimits : Type 0
CompletionKeepsLimits = (l : Limits) (courses : List Course) (h : List Event) → IsTrue (keeps_limits l courses h)
    → IsTrue (keeps_limits l courses (completed courses h))

-- And it stands within them: what is added was counted when its processes started.
abbrev pub CompletedStandsWithin : Type 0
CompletedStandsWithin = (l : Limits) (plans : List Plan) (h : List Event) → AreGood plans
    → IsTrue (is_in_own_order (courses_of plans) h)
    → IsTrue (keeps_limits l (courses_of plans) h) → IsTrue (stands_within l (courses_of plans) (completed (courses_of plans) h))

-- In own order a process has at most twice as many acts as steps.
abbrev pub ActsAreFew : Type 0
ActsAreFew = (plans : List Plan) (h : List Event) (i : ℕ) → AreGood plans → IsTrue (is_in_own_order (courses_of plans) h)
    → length (of_process i (acts h)) ≤ 2 * length (course (courses_of plans) i).ops

-- So nothing but a start adds to what is counted: in own order a history within limits stands within them at each moment.
abbrev pub LimitsHold : Type 0
LimitsHold = (l : Limits) (plans : List Plan) (h : List Event) → AreGood plans → IsTrue (is_in_own_order (courses_of plans) h)
    → IsTrue (keeps_limits l (courses_of plans) h) → IsTrue (stands_within l (courses_of plans) h)

-- Completion.

-- every process that started has done a whole path, or nothing of it is left
abbrev pub AllAtEnds : List Course → List Event → Type 0
AllAtEnds courses h = (i : ℕ) → IsTrue (is_in i (starts h)) → IsTrue (is_at_end courses h i)

-- In own order each process that ended is at an end.
abbrev pub EndedAreAtEnds : Type 0
EndedAreAtEnds = (courses : List Course) (h : List Event) (i : ℕ) → IsTrue (is_in_own_order courses h) → IsTrue (is_in i (ends h))
    → IsTrue (is_at_end courses h i)

-- Completion law of own order: of a history in own order, the completed one is in own order, nobody is active in it, and
-- each process is at an end.
abbrev pub OwnOrderCompletionLaw : Type 0
OwnOrderCompletionLaw = (plans : List Plan) (h : List Event) → AreGood plans → IsTrue (is_in_own_order (courses_of plans) h)
    → let courses = courses_of plans in
    IsTrue (is_in_own_order courses (completed courses h)) × (active (completed courses h) ≡ [])
    × AllAtEnds courses (completed courses h)

-- Completion law: a completed history is legal, no process is active in it, and each is at an end.
abbrev pub CompletionLaw : Type 0
CompletionLaw = (table : ConflictRelation) (plans : List Plan) (h : List Event) → IsGood table plans h
    → let courses = courses_of plans in
    IsTrue (is_legal table courses (completed courses h)) × (active (completed courses h) ≡ [])
    × AllAtEnds courses (completed courses h)

-- Completion is stable: what is cut off while it is completed is completed to the same. Own order is enough.
abbrev pub CompletionIsStable : Type 0
CompletionIsStable = (plans : List Plan) (h part rest : List Event) → AreGood plans → IsTrue (is_in_own_order (courses_of plans) h)
    → let courses = courses_of plans in
    completed courses h ≡ h ++ part ++ rest → completed courses (h ++ part) ≡ completed courses h

-- Reduction.

-- Trace steps that apply in turn are exchanges of neighbours and cancels, one after another.
abbrev pub AppliedStepsReduce : Type 0
AppliedStepsReduce = (table : ConflictRelation) (steps : List TraceStep) (xs ys : List Entry) → applied_all table steps xs ≡ Some ys
    → AreReduced table xs ys

-- the printed trace leads from the schedule of h to a serial list
pub record Reduces (table : ConflictRelation) (h : List Event) : Type 0 where
  -- its steps apply in turn
  pub applies : applied_all table (trace_of (ends h) (acts h)).steps (acts h) ≡ Some (trace_of (ends h) (acts h)).list
  -- they are exchanges of neighbours and cancels
  pub reduced : AreReduced table (acts h) (trace_of (ends h) (acts h)).list
  pub serial : IsTrue (is_serial (trace_of (ends h) (acts h)).list)
  -- the list has the nets of the processes in the order of their ends
  pub nets : (trace_of (ends h) (acts h)).list ≡ flat_map (net_of h) (ends h)

-- Reduction law: so it is for each history without an active process in which each event keeps own order and nothing
-- stands against the undos and the ends, whatever the courses are.
abbrev pub ReductionLaw : Type 0
ReductionLaw = (table : ConflictRelation) (courses : List Course) (h : List Event) → IsSymmetric table
    → IsTrue (is_reducible table courses h) → active h ≡ [] → Reduces table h

-- Prefix reducibility: with the prefix law it is so for the completed history of each beginning of a legal one.
abbrev pub PrefixReducibility : Type 0
PrefixReducibility = (table : ConflictRelation) (plans : List Plan) (g k : List Event) → IsGood table plans (g ++ k)
    → Reduces table (completed (courses_of plans) g)

-- The facts of the classes of steps.

-- what step b does to the recovery of process i, by its class; after is the history with it
pub record ClassFacts (courses : List Course) (h after : List Event) (i b : ℕ) : Type 0 where
  -- an owed step leaves nothing to undo, before and after, and what is owed is the step and then what is owed after it
  pub reserved_before : class_in courses h i b ≡ reserved → backward_entries courses h i ≡ []
  pub reserved_after : class_in courses h i b ≡ reserved → backward_entries courses after i ≡ []
  pub reserved_owes : class_in courses h i b ≡ reserved → owed courses h i ≡ doing courses i b ∷ owed courses after i
  -- it can't be refused: play comes past it without an outcome
  pub reserved_succeeds : class_in courses h i b ≡ reserved → can_be_refused (kind_of (shape courses i) b) ≡ false
  pub reserved_without_outcome : class_in courses h i b ≡ reserved
      → arrive (shape courses i) (net_steps h i) b ≡ go_on (shape courses i) (net_steps h i ++ b ∷ [])
  -- a committing step leaves nothing to undo, and what is owed is what was said
  pub committing_after : class_in courses h i b ≡ committing → backward_entries courses after i ≡ []
  pub committing_owes : class_in courses h i b ≡ committing → owed courses after i ≡ owed_after courses h i b
  -- an undoable step adds itself to what can be undone, and what is owed stays
  pub undoable_after : class_in courses h i b ≡ undoable
      → backward_entries courses after i ≡ backward_entries courses h i ++ doing courses i b ∷ []
  pub undoable_owes : class_in courses h i b ≡ undoable → owed courses after i ≡ owed courses h i

-- They hold of each step that goes on, over good plans.
abbrev pub ClassFactsHold : Type 0
ClassFactsHold = (plans : List Plan) (h : List Event) (i b : ℕ) → AreGood plans → IsTrue (goes_on (courses_of plans) h i b)
    → ClassFacts (courses_of plans) h (h ++ Act (doing (courses_of plans) i b) ∷ []) i b

-- The standing facts of a legal history.

pub record StandingFacts (table : ConflictRelation) (courses : List Course) (h : List Event) : Type 0 where
  -- what an active process owes conflicts with no net entry of another active process, and with nothing that it owes
  pub owed_is_free : (i k : ℕ) (s e : Entry) → IsTrue (is_active h i) → IsTrue (is_active h k) → Contains (owed courses h i) s
      → Contains (net_of h k ++ owed courses h k) e → conflict table s e ≡ false
  -- before a net entry of an active process that can't be undone stands no net entry of another active process that conflicts
  pub fixed_is_free : (i k : ℕ) (x e : Entry) → IsTrue (is_active h i) → IsTrue (is_active h k) → Contains (net_of h k) x
      → Contains (net_of h i) e → IsTrue (not (list_any (same_step e) (backward_entries courses h i)))
      → Contains (behind x (net h)) e
      → conflict table x e ≡ false
  -- no net entry of an ended process conflicts with an earlier net entry of a process that is active, or ended after it
  pub ended_is_free : (i k : ℕ) (x e : Entry) → IsTrue (is_in i (ends h)) → IsTrue (outlives h k i) → Contains (net_of h k) x
      → Contains (net_of h i) e → Contains (behind x (net h)) e → conflict table x e ≡ false

-- They hold of each legal history.
abbrev pub StandingFactsHold : Type 0
StandingFactsHold = (table : ConflictRelation) (plans : List Plan) (h : List Event) → IsGood table plans h
    → StandingFacts table (courses_of plans) h

-- Openings are acyclic: the conflict graph of a legal history has no circle.
abbrev pub OpeningsAreAcyclic : Type 0
OpeningsAreAcyclic = (table : ConflictRelation) (plans : List Plan) (h : List Event) → IsGood table plans h
    → (i : ℕ) → reaches table (at_rest (courses_of plans) h) i i ≡ false

-- What stands against a step or an end is the same without those that have ended.
pub record EndedAreAside (table : ConflictRelation) (g : Holdings) : Type 0 where
  pub steps : (class : StepClass) (b : Entry) (owed : List Entry)
      → against_step table (of_active g) class b owed ≡ against_step table g class b owed
  pub to_end : (i : ℕ) → against_end table (of_active g) i ≡ against_end table g i

abbrev pub EndedDontBlockSteps : Type 0
EndedDontBlockSteps = (table : ConflictRelation) (g : Holdings) → EndedAreAside table g

-- In a legal history so is what stands against an undo.
abbrev pub EndedDontBlockUndos : Type 0
EndedDontBlockUndos = (table : ConflictRelation) (plans : List Plan) (h : List Event) (x : Entry) → IsGood table plans h
    → IsTrue (is_active h x.process) → access_of x ≡ access_at (courses_of plans) x.process x.step
    → against_undo table (of_active (at_rest (courses_of plans) h)) x ≡ against_undo table (at_rest (courses_of plans) h) x
