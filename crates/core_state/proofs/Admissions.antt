-- What the tables say against the next piece of a process is what the machine says.
use Rattle.std.proofs.Common.{◌≡◌, ℕ, Bool, true, false, if◌then◌else◌, List, [], ◌∷◌, ◌++◌, map, slice_index_or, None, sym, refl, ap, ◌∙◌, append-nil}
use Rattle.process_tree.specs.Order.{has}
use Rattle.process_tree.specs.declared.entry.Entry.{Entry}
use Rattle.process_tree.specs.declared.plan.Plan.{Plan}
use Rattle.process_tree.specs.declared.step.StepKind.{StepKind}
use Rattle.process_tree.specs.declared.step.StepKind.TheVariants.{C, P, R, Cr}
use Rattle.process_tree.specs.Conflicts.{Table, do_conflict}
use Rattle.process_tree.specs.Entries.{entry_of}
use Rattle.process_tree.specs.Recovery.{StepClass, class_by_kind, committing, reserved, undoable, forward}
use Rattle.process_tree.specs.Shape.{Shape, branch_to, kind_of, shape_of, last_after, commits_after, commits_by_kind}
use Rattle.schedule_model.specs.Blocking.{against_step}
use Rattle.schedule_model.specs.Conflict.{ConflictRelation}
use Rattle.schedule_model.specs.Course.{Course, course, course_of, shape}
use Rattle.schedule_model.specs.Histories.{active, doing, is_in, net_steps}
use Rattle.schedule_model.specs.Holdings.{Holdings}
use Rattle.schedule_model.specs.Legal.{class_in}
use Rattle.schedule_model.specs.Recovery.{owed, owed_after, owed_steps}
use Rattle.machine_model.specs.Moment.{Moment}
use Rattle.machine_model.specs.Pieces.{running_of}
use Rattle.machine_model.specs.State.{hold_of, owed_soon}
use Rattle.hold_tables.specs.Tables.{OpenProcess, Tables, holdings_of, kept_of}
use Rattle.admission.specs.Admission.{class_in_tables, owed_behind, reserved_steps}
use Rattle.core_state.specs.OpenTables.{planned_of, row_of, tables_of}
use Rattle.core_state.proofs.MayStand.{numbered_map}
use Rattle.core_state.proofs.StoodRows.{owes_behind}

-- the steps of a process, as its reserved steps in the tables
pub steps_back : (courses : List Course) (i : ℕ) (bs : List ℕ) → map (λ (step : ℕ × ℕ × ℕ). step.0) (planned_of (map (doing courses i) bs)) ≡ bs
steps_back courses i [] = refl
steps_back courses i (b ∷ bs) = ap (λ xs. b ∷ xs) (steps_back courses i bs)

-- what would be owed counts for new commit points alone
against_class : (table : ConflictRelation) (g : Holdings) (k : StepClass) (b : Entry) (owed after : List Entry) → (k ≡ committing → owed ≡ after) → against_step table g k b owed ≡ against_step table g k b after
against_class table g reserved b owed after same = refl
against_class table g undoable b owed after same = refl
against_class table g committing b owed after same = ap (against_step table g committing b) (same refl)

-- a new commit point commits
class_commits : (r : Bool) (t : Shape) (w : List ℕ) (b : ℕ) → (if r then reserved else class_by_kind (kind_of t b)) ≡ committing → commits_after t w b ≡ true
class_commits true t w b is = absurd (cc)
class_commits false t w b is = by_kind (kind_of t b) is
  where
    by_kind : (k : StepKind) → class_by_kind k ≡ committing → commits_by_kind k (has b (forward t w)) ≡ true
    by_kind C is = absurd (cc)
    by_kind P is = refl
    by_kind R is = refl
    by_kind Cr is = absurd (cc)

module _ (conflicts : Table) (courses : List Course) (m : Moment) (i : ℕ) (p : Plan) (listed : is_in i (active m.events) ≡ true) (plan : course courses i ≡ course_of p) where
  abbrev ts : Tables
  ts = tables_of conflicts courses m

  abbrev t : Shape
  t = shape courses i

  abbrev w : List ℕ
  w = net_steps m.events i

  -- its row is that of the machine
  pub kept_is : kept_of (tables_of conflicts courses m) i ≡ row_of courses m i
  kept_is = numbered_map (row_of courses m) i (active m.events) (λ k. refl) listed

  same_shape : shape_of p.tree ≡ t
  same_shape = ap (λ (x : Course). x.shape) (sym plan)

  pub entry_is : (b : ℕ) → entry_of p i b ≡ doing courses i b
  entry_is b = ap (λ (x : Course). record { process = i; step = b; op = slice_index_or x.ops b 0; key = slice_index_or x.keys b 0; undo = false }) (sym plan)

  entries_are : (bs : List ℕ) → map (entry_of p i) bs ≡ map (doing courses i) bs
  entries_are [] = refl
  entries_are (b ∷ bs) = ap (λ (e : Entry). e ∷ map (entry_of p i) bs) (entry_is b) ∙ ap (λ es. doing courses i b ∷ es) (entries_are bs)

  module _ (idle : running_of m i ≡ None) where
    pub reserved_are : (hold_of courses m i).reserved ≡ owed courses m.events i
    reserved_are = ap (λ o. owed courses m.events i ++ owed_soon courses m.events o) idle ∙ append-nil (owed courses m.events i)

    -- it has reserved what it owes
    pub reserved_owed : reserved_steps (tables_of conflicts courses m) i ≡ owed_steps courses m.events i
    reserved_owed =
        ap (λ (r : OpenProcess). map (λ (step : ℕ × ℕ × ℕ). step.0) r.reserved) kept_is
        ∙ (ap (λ es. map (λ (step : ℕ × ℕ × ℕ). step.0) (planned_of es)) reserved_are
        ∙ steps_back courses i (owed_steps courses m.events i))

    -- so the class of a step is that of the machine
    pub class_is : (b : ℕ) → class_in_tables (tables_of conflicts courses m) p i b ≡ class_in courses m.events i b
    class_is b =
        ap (λ bs. if is_in b bs then reserved else class_by_kind (kind_of (shape_of p.tree) b)) reserved_owed
        ∙ ap (λ (x : Shape). if is_in b (owed_steps courses m.events i) then reserved else class_by_kind (kind_of x b)) same_shape

    -- what would be owed behind a new commit point that goes on
    pub owed_is : (b : ℕ) → branch_to t b ≡ w → class_in courses m.events i b ≡ committing → owed_behind p i b ≡ owed_after courses m.events i b
    owed_is b branch class =
        ap (λ (x : Shape). map (entry_of p i) (last_after x (branch_to x b ++ b ∷ []))) same_shape
        ∙ (entries_are (last_after t (branch_to t b ++ b ∷ []))
        ∙ ap (map (doing courses i)) (ap (λ v. last_after t (v ++ b ∷ [])) branch
        ∙ sym (owes_behind t w b (class_commits (is_in b (owed_steps courses m.events i)) t w b class))))

    -- against a step that goes on
    pub against_forward : (b : ℕ) → branch_to (shape courses i) b ≡ net_steps m.events i
        → against_step (do_conflict conflicts) (holdings_of (tables_of conflicts courses m)) (class_in_tables (tables_of conflicts courses m) p i b) (entry_of p i b) (owed_behind p i b)
        ≡ against_step (do_conflict conflicts) (holdings_of (tables_of conflicts courses m)) (class_in courses m.events i b) (doing courses i b) (owed_after courses m.events i b)
    against_forward b branch =
        let g = holdings_of ts in
        ap (λ k. against_step (do_conflict conflicts) g k (entry_of p i b) (owed_behind p i b)) (class_is b)
        ∙ (ap (λ e. against_step (do_conflict conflicts) g (class_in courses m.events i b) e (owed_behind p i b)) (entry_is b)
        ∙ against_class (do_conflict conflicts) g (class_in courses m.events i b) (doing courses i b) (owed_behind p i b) (owed_after courses m.events i b) (owed_is b branch))
