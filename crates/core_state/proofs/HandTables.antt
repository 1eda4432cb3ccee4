-- What a piece that may be handed out makes of the tables.
use Rattle.std.proofs.Common.{◌≡◌, ℕ, ◌-◌, ◌<◌, Bool, true, false, not, eqb, ltb, ◌&&◌, if◌then◌else◌, List, [], ◌∷◌, ◌++◌, length, map, take, drop, slice_index_or, Option, Some, None, is_none, sym, refl, ap, subst, ◌∙◌, append-nil, length-append, arith}
use Rattle.std.proofs.lemmas.Bool.{and_from, and_parts, eq-eqb, false≢true, lt-ltb, or_left}
use Rattle.std.proofs.lemmas.List.{length-map, map-append}
use Rattle.process_tree.specs.declared.entry.Entry.{Entry}
use Rattle.process_tree.specs.declared.plan.Plan.{Plan}
use Rattle.process_tree.specs.declared.step.StepKind.{StepKind}
use Rattle.process_tree.specs.Blocks.{outline}
use Rattle.process_tree.specs.Conflicts.{operations_in}
use Rattle.process_tree.specs.Entries.{entry_of, key_of, undo_of}
use Rattle.process_tree.specs.Order.{Each, IsLaidOut}
use Rattle.process_tree.specs.Recovery.{StepClass, class_by_kind, committing, reserved, undoable}
use Rattle.process_tree.specs.Shape.{Shape, branch_to, fixed_len, kind_of, shape_of, last_after}
use Rattle.process_tree.proofs.TreeLaws.{paths_lie_in_order}
use Rattle.schedule_model.specs.Course.{Course, shape}
use Rattle.schedule_model.specs.Histories.{active, doing, is_active, is_in, net_of, net_steps, of_process}
use Rattle.schedule_model.specs.Legal.{class_in}
use Rattle.schedule_model.specs.Recovery.{owed, owed_after, owed_steps}
use Rattle.schedule_model.proofs.Active.{is_active-is_in}
use Rattle.schedule_model.proofs.GoodPlans.{good_if_goes_on}
use Rattle.machine_model.specs.declared.kept.Kept.TheVariants.{Hand}
use Rattle.machine_model.specs.declared.kept.Work.{Work}
use Rattle.machine_model.specs.declared.kept.Work.TheVariants.{Forward, Undo, End}
use Rattle.machine_model.specs.Moment.{Moment, Piece}
use Rattle.machine_model.specs.Pieces.{running_of}
use Rattle.machine_model.specs.State.{block_of, entry_by, entry_of as entry_running, hold_of, is_exhausted, next_of, owed_by_class, owed_by_work}
use Rattle.machine_model.specs.Runs.{may_be_kept}
use Rattle.machine_model.proofs.RunningNext.{hand_parts, task_of}
use Rattle.machine_model.proofs.StateSteps.{same_is}
use Rattle.hold_tables.specs.Changes.{can_run, change_numbered, changed, is_new_step, run, steps_of, undoes_last, with_reserved, with_running}
use Rattle.hold_tables.specs.Kept.{AreKnown}
use Rattle.hold_tables.specs.Tables.{OpenProcess, Tables, is_open, kept_of, lasts, numbered}
use Rattle.admission.specs.Admission.{IsPlanFor}
use Rattle.core_state.specs.Cores.{CoreState, IsCore, courses_in, moment_of, relation}
use Rattle.core_state.specs.UnderWay.{FitsClass, MayComeUnderWay, step_under_way, under_way}
use Rattle.core_state.specs.OpenTables.{planned_behind, planned_of, row_of, planned_step, tables_of}
use Rattle.core_state.proofs.Admissions.{class_is, entry_is, kept_is, owed_is, reserved_are}
use Rattle.core_state.proofs.LastSteps.{known_op, last_within}
use Rattle.core_state.proofs.NextTasks.{comes_next, more_than_fixed, net_ends, next_branch, next_new, next_within, undone_within}
use Rattle.core_state.proofs.OwnPlans.{OwnPlan, own_steps}
use Rattle.core_state.proofs.PendedRows.{listed_open}
use Rattle.core_state.proofs.ReservedFits.{owed_fits}
use Rattle.core_state.proofs.StoodRows.{changed_twice}
use Rattle.core_state.proofs.TablesHoldings.{own_net}

-- two changes that are one for the row of process i
change_same : (f g : OpenProcess → OpenProcess) (i : ℕ) (rows : List OpenProcess) → f (numbered i rows) ≡ g (numbered i rows) → change_numbered f i rows ≡ change_numbered g i rows
change_same f g i [] same = refl
change_same f g i (r ∷ rows) same = by_first (eqb r.process i) same (change_same f g i rows)
  where
    by_first : (t : Bool) → f (if t then r else numbered i rows) ≡ g (if t then r else numbered i rows) → (f (numbered i rows) ≡ g (numbered i rows) → change_numbered f i rows ≡ change_numbered g i rows)
        → (if t then f r ∷ rows else r ∷ change_numbered f i rows) ≡ (if t then g r ∷ rows else r ∷ change_numbered g i rows)
    by_first true here later = ap (λ x. x ∷ rows) here
    by_first false there later = ap (λ xs. r ∷ xs) (later there)

-- a change that leaves it
change_none : (f : OpenProcess → OpenProcess) (i : ℕ) (rows : List OpenProcess) → f (numbered i rows) ≡ numbered i rows → change_numbered f i rows ≡ rows
change_none f i [] same = refl
change_none f i (r ∷ rows) same = by_first (eqb r.process i) same (change_none f i rows)
  where
    by_first : (t : Bool) → f (if t then r else numbered i rows) ≡ (if t then r else numbered i rows) → (f (numbered i rows) ≡ numbered i rows → change_numbered f i rows ≡ rows)
        → (if t then f r ∷ rows else r ∷ change_numbered f i rows) ≡ r ∷ rows
    by_first true here later = ap (λ x. x ∷ rows) here
    by_first false there later = ap (λ xs. r ∷ xs) (later there)

drop_front : {X : Type 0} (xs ys : List X) → drop (length xs) (xs ++ ys) ≡ ys
drop_front [] ys = refl
drop_front (x ∷ xs) ys = drop_front xs ys

last_one : (front : List Entry) (e : Entry) → lasts 1 (front ++ e ∷ []) ≡ e ∷ []
last_one front e =
    let more = length-append front (e ∷ []) in
    let n : length (front ++ e ∷ []) - 1 ≡ length front = omega arith in
    ap (λ k. drop k (front ++ e ∷ [])) n ∙ drop_front front (e ∷ [])

-- a new commit point wasn't owed
class_free : (r : Bool) (k : StepKind) → (if r then reserved else class_by_kind k) ≡ committing → r ≡ false
class_free true k is = absurd (cc)
class_free false k is = refl

module _ (v : CoreState) (core : IsCore v) (d : Piece) (may : may_be_kept (relation v) (courses_in v) (moment_of v) (Hand d.number d.process d.step d.work) ≡ true) where
  abbrev cs : List Course
  cs = courses_in v

  abbrev m : Moment
  m = moment_of v

  abbrev i : ℕ
  i = d.process

  free : (is_active m.events i ≡ true) × (is_none (running_of m i) ≡ true)
  free =
      let parts = hand_parts (relation v) cs m d may in
      and_parts (is_active m.events i) (is_none (running_of m i))
      (and_parts (is_active m.events i && is_none (running_of m i)) (not (is_exhausted cs m i))
      (and_parts ((is_active m.events i && is_none (running_of m i)) && not (is_exhausted cs m i)) (is_none (block_of (relation v) cs m i)) parts.free).0).0

  pub active_now : is_active (moment_of v).events d.process ≡ true
  active_now = free.0

  none_is : {X : Type 0} (o : Option X) → is_none o ≡ true → o ≡ None
  none_is None is = refl
  none_is (Some x) is = absurd (false≢true is)

  idle_now : running_of m i ≡ None
  idle_now = none_is (running_of m i) free.1

  next_is : next_of cs m i ≡ record { work = d.work; step = d.step }
  next_is =
      let same = same_is (task_of d) (next_of cs m i) (hand_parts (relation v) cs m d may).task in
      ap (λ w. record { work = w; step = (next_of cs m i).step }) (sym same.0) ∙ ap (λ b. record { work = d.work; step = b }) (sym same.1)

  listed : is_in i (active m.events) ≡ true
  listed = is_active-is_in m.events i ∙ active_now

  -- its process is open
  pub open_now : is_open (tables_of v.conflicts (courses_in v) (moment_of v)) d.process ≡ true
  open_now = listed_open (row_of cs m) i (active m.events) (λ k. refl) listed

  module _ (p : Plan) (own : OwnPlan v d.process p) where
    abbrev ts : Tables
    ts = tables_of v.conflicts (courses_in v) (moment_of v)

    abbrev t : Shape
    t = shape (courses_in v) d.process

    abbrev w : List ℕ
    w = net_steps (moment_of v).events d.process

    row_is : kept_of ts i ≡ row_of cs m i
    row_is = kept_is v.conflicts cs m i p listed own.course'

    -- nothing of it is under way
    pub idle_row : (kept_of (tables_of v.conflicts (courses_in v) (moment_of v)) d.process).running ≡ None
    idle_row = ap (λ (r : OpenProcess). r.running) row_is ∙ ap (λ o. entry_running cs o) idle_now

    pub steps_row : (kept_of (tables_of v.conflicts (courses_in v) (moment_of v)) d.process).steps ≡ length (outline p.tree).steps
    steps_row = ap (λ (r : OpenProcess). r.steps) row_is ∙ own_steps v i p own

    pub plan_row : IsPlanFor (tables_of v.conflicts (courses_in v) (moment_of v)) p
    plan_row = record { operations = own.good.operations; known = own.known }

    net_is : of_process i ts.net ≡ net_of m.events i
    net_is = own_net cs m i listed

    -- what it has reserved is what it owes
    reserved_row : (kept_of ts i).reserved ≡ planned_of (owed cs m.events i)
    reserved_row = ap (λ (r : OpenProcess). r.reserved) row_is ∙ ap planned_of (reserved_are v.conflicts cs m i p listed own.course' idle_now)

    planned_known : (bs : List ℕ) → Each (λ b. b < length p.ops) bs → AreKnown v.conflicts (planned_of (map (doing cs i) bs))
    planned_known [] within = tt
    planned_known (b ∷ bs) within =
        let known = known_op p.ops (operations_in v.conflicts) b own.known within.0 in
        let same = ap (λ (x : Course). slice_index_or x.ops b 0) own.course' in
        (omega arith, planned_known bs within.1)

    module _ (b : ℕ) (next : next_of cs m i ≡ record { work = Forward; step = b }) where
      laid : IsLaidOut (length t.kinds) t.paths
      laid = paths_lie_in_order t (good_if_goes_on v.plans i w b core.session.good (comes_next v core i active_now b next).goes).tree

      owed_within : (c : Bool) → Each (λ x. x < length t.kinds) (if c then [] else last_after t (take (fixed_len t w) w))
      owed_within true = tt
      owed_within false = last_within t (length t.kinds) (length t.kinds) (take (fixed_len t w) w) laid.within

      many_planned : (bs : List ℕ) → length (planned_of (map (doing cs i) bs)) ≡ length bs
      many_planned bs = length-map (map (doing cs i) bs) (λ (e : Entry). (e.step, e.op, e.key)) ∙ length-map bs (doing cs i)

      behind_length : length (planned_behind p b) ≡ length (last_after t (w ++ b ∷ []))
      behind_length =
          length-map (last_after (shape_of p.tree) (branch_to (shape_of p.tree) b ++ b ∷ [])) (planned_step p)
          ∙ (ap (λ (x : Shape). length (last_after x (branch_to x b ++ b ∷ []))) (ap (λ (x : Course). x.shape) (sym own.course'))
          ∙ ap (λ u. length (last_after t (u ++ b ∷ []))) (next_branch v core i active_now b next))

      fits_by : (k : StepClass) → class_in cs m.events i b ≡ k → FitsClass p i b ts k
      fits_by reserved is = tt
      fits_by undoable is = tt
      fits_by committing is =
          let fits = owed_fits t laid w b (next_new v core i active_now b next) (class_free (is_in b (owed_steps cs m.events i)) (kind_of t b) is) in
          let one = ap length reserved_row ∙ many_planned (owed_steps cs m.events i) in
          let two = behind_length in
          let three = own_steps v i p own in
          let four = own.good.operations in (
            omega arith,
            subst (AreKnown v.conflicts) (sym reserved_row) (planned_known (owed_steps cs m.events i)
                (subst (λ n. Each (λ x. x < n) (owed_steps cs m.events i)) (let e : length t.kinds ≡ length p.ops = omega arith in e) (owed_within (eqb (fixed_len t w) 0)))),
          )

      may_step : can_run ts (entry_of p i b) ≡ true
      may_step =
          ap (λ es. is_new_step (entry_of p i b) es (kept_of ts i).steps) net_is
          ∙ (ap (λ (r : OpenProcess). is_new_step (entry_of p i b) (net_of m.events i) r.steps) row_is
          ∙ and_from (ltb b (length t.kinds)) (not (is_in b w)) (lt-ltb b (length t.kinds) (next_within v core i active_now b next)) (ap not (next_new v core i active_now b next)))

    may_undo : (b : ℕ) → next_of cs m i ≡ record { work = Undo; step = b } → can_run ts (undo_of (entry_of p i b)) ≡ true
    may_undo b next =
        ap (λ es. undoes_last (undo_of (entry_of p i b)) es (kept_of ts i).fixed) net_is
        ∙ (ap (λ (r : OpenProcess). undoes_last (undo_of (entry_of p i b)) (net_of m.events i) r.fixed) row_is
        ∙ and_from (ltb (fixed_len t w) (length (net_of m.events i))) (is_in b (steps_of (lasts 1 (net_of m.events i)))) (lt-ltb (fixed_len t w) (length (net_of m.events i)) (more_than_fixed v core i active_now b next))
        (ap (λ es. is_in b (steps_of (lasts 1 es))) (net_ends v core i active_now b next).1 ∙ (ap (λ es. is_in b (steps_of es)) (last_one (net_ends v core i active_now b next).0 (doing cs i b)) ∙ or_left (eqb b b) false (eq-eqb b b refl))))

    may_by : (x : Work) (b : ℕ) → next_of cs m i ≡ record { work = x; step = b } → MayComeUnderWay p i b ts x
    may_by Forward b next =
        let within = next_within v core i active_now b next in
        let same = own_steps v i p own in
        (omega arith, may_step b next, subst (FitsClass p i b ts) (sym (class_is v.conflicts cs m i p listed own.course' idle_now b)) (fits_by b next (class_in cs m.events i b) refl))
    may_by Undo b next =
        let within = undone_within v core i active_now b next in
        let same = own_steps v i p own in
        (omega arith, may_undo b next)
    may_by End b next = tt

    -- the piece may come under way
    pub may_come : MayComeUnderWay p d.process d.step (tables_of v.conflicts (courses_in v) (moment_of v)) d.work
    may_come = may_by d.work d.step next_is

    abbrev held : List Entry
    held = (hold_of (courses_in v) (moment_of v) d.process).reserved

    -- the row with these reserved and this under way
    abbrev row_with : List Entry → Option Entry → OpenProcess → OpenProcess
    row_with es e r = with_reserved (planned_of es) (with_running e r)

    abbrev tables_with : (OpenProcess → OpenProcess) → Tables
    tables_with f = record { conflicts = v.conflicts; net = ts.net; processes = change_numbered f d.process (map (row_of (courses_in v) (moment_of v)) (active (moment_of v).events)) }

    same_change : (f g : OpenProcess → OpenProcess) → f (row_of cs m i) ≡ g (row_of cs m i) → tables_with f ≡ tables_with g
    same_change f g same = ap (λ rs. record { conflicts = v.conflicts; net = ts.net; processes = rs }) (change_same f g i ts.processes (ap f row_is ∙ (same ∙ ap g (sym row_is))))

    -- where nothing is reserved anew
    runs_alone : (b op key : ℕ) (u : Bool) → run (record { process = d.process; step = b; op = op; key = key; undo = u }) ts ≡ tables_with (row_with (held ++ []) (Some (record { process = d.process; step = b; op = op; key = key; undo = u })))
    runs_alone b op key u = let e : Entry = record { process = d.process; step = b; op = op; key = key; undo = u } in same_change (with_running (Some e)) (row_with (held ++ []) (Some e)) (ap (λ es. row_with es (Some e) (row_of cs m i)) (sym (append-nil held)))

    entries_planned : (bs : List ℕ) → map (planned_step p) bs ≡ planned_of (map (entry_of p i) bs)
    entries_planned [] = refl
    entries_planned (b ∷ bs) = ap (λ ps. planned_step p b ∷ ps) (entries_planned bs)

    module _ (b : ℕ) (next : next_of cs m i ≡ record { work = Forward; step = b }) where
      reserves : class_in cs m.events i b ≡ committing → step_under_way p i b ts committing ≡ tables_with (row_with (held ++ owed_after cs m.events i b) (Some (entry_of p i b)))
      reserves is =
          let e = entry_of p i b in
          let planned : (kept_of ts i).reserved ++ planned_behind p b ≡ planned_of (held ++ owed_after cs m.events i b) =
          ap (λ (r : OpenProcess). r.reserved ++ planned_behind p b) row_is
          ∙ (ap (λ ps. planned_of held ++ ps) (entries_planned (last_after (shape_of p.tree) (branch_to (shape_of p.tree) b ++ b ∷ [])) ∙ ap planned_of (owed_is v.conflicts cs m i p listed own.course' idle_now b (next_branch v core i active_now b next) is))
          ∙ sym (map-append (λ (x : Entry). (x.step, x.op, x.key)) held (owed_after cs m.events i b))) in
          ap (λ ps. changed (with_reserved ps) i (run e ts)) planned
          ∙ ap (λ rs. record { conflicts = v.conflicts; net = ts.net; processes = rs }) (changed_twice (with_running (Some e)) (with_reserved (planned_of (held ++ owed_after cs m.events i b))) i ts.processes (λ r. refl))

      by_class : (k : StepClass) → class_in cs m.events i b ≡ k → step_under_way p i b ts k ≡ tables_with (row_with (held ++ owed_by_class k (owed_after cs m.events i b)) (Some (entry_of p i b)))
      by_class reserved is = runs_alone b (slice_index_or p.ops b 0) (key_of p.tree b) false
      by_class undoable is = runs_alone b (slice_index_or p.ops b 0) (key_of p.tree b) false
      by_class committing is = reserves is

      step_comes : under_way p i b ts Forward ≡ tables_with (row_with (held ++ owed_by_work cs m.events i b Forward) (Some (doing cs i b)))
      step_comes =
          ap (step_under_way p i b ts) (class_is v.conflicts cs m i p listed own.course' idle_now b)
          ∙ (by_class (class_in cs m.events i b) refl
          ∙ ap (λ e. tables_with (row_with (held ++ owed_by_work cs m.events i b Forward) (Some e))) (entry_is v.conflicts cs m i p listed own.course' b))

    comes_by : (x : Work) (b : ℕ) → next_of cs m i ≡ record { work = x; step = b } → under_way p i b ts x ≡ tables_with (row_with (held ++ owed_by_work cs m.events i b x) (entry_by cs i b x))
    comes_by Forward b next = step_comes b next
    comes_by Undo b next = runs_alone b (slice_index_or p.ops b 0) (key_of p.tree b) true ∙ ap (λ e. tables_with (row_with (held ++ []) (Some (undo_of e)))) (entry_is v.conflicts cs m i p listed own.course' b)
    comes_by End b next =
        sym (ap (λ rs. record { conflicts = v.conflicts; net = ts.net; processes = rs }) (change_none (row_with (held ++ []) None) i ts.processes
        (ap (row_with (held ++ []) None) row_is ∙ (ap (λ es. row_with es None (row_of cs m i)) (append-nil held) ∙ (ap (λ o. with_running o (row_of cs m i)) (sym (ap (λ o. entry_running cs o) idle_now)) ∙ sym row_is)))))

    -- what it makes of the tables
    pub tables_under_way : under_way p d.process d.step (tables_of v.conflicts (courses_in v) (moment_of v)) d.work
        ≡ changed (λ r. with_reserved (planned_of ((hold_of (courses_in v) (moment_of v) d.process).reserved ++ owed_by_work (courses_in v) (moment_of v).events d.process d.step d.work)) (with_running (entry_by (courses_in v) d.process d.step d.work) r))
        d.process (tables_of v.conflicts (courses_in v) (moment_of v))
    tables_under_way = comes_by d.work d.step next_is
