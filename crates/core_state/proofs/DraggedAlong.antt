-- A core stands after an event at which a process drags others along: the seats and the tables before these begin, and after.
use Rattle.std.proofs.Common.{◌≡◌, ◌∙◌, ℕ, ◌+◌, ◌-◌, ◌≤◌, Bool, true, false, not, eqb, ◌&&◌, ◌||◌, if◌then◌else◌, List, [], length, filter, map, slice_set, Option, Some, None, is_some, sym, refl, ap, subst, arith}
use Rattle.std.proofs.Math.Bool.{or-false}
use Rattle.std.proofs.lemmas.Bool.{and_from, and_parts, eq-eqb, eqb-true, false≢true, or_right}
use Rattle.std.proofs.lemmas.List.{length-drop, length-map}
use Rattle.process_tree.specs.declared.entry.Entry.{Entry}
use Rattle.process_tree.specs.Blocks.{numbers_from}
use Rattle.process_tree.specs.Order.{Each}
use Rattle.process_tree.specs.Shape.{fixed_len}
use Rattle.process_tree.proofs.Every.{Each-map, Each-weaker}
use Rattle.schedule_model.specs.declared.event.Event.{Event}
use Rattle.schedule_model.specs.Course.{Course, course_of, shape}
use Rattle.schedule_model.specs.Histories.{active, ends, is_active, is_in, net, net_of, net_steps, of_process, starts, steps_of}
use Rattle.schedule_model.specs.Holdings.{Hold, active_net}
use Rattle.schedule_model.proofs.Active.{is_active-is_in, is_in-filter}
use Rattle.schedule_model.specs.declared.marks.Cause.{Cause}
use Rattle.schedule_model.specs.declared.marks.Cause.TheVariants.{Cascade}
use Rattle.machine_model.specs.declared.kept.Kept.{Kept}
use Rattle.machine_model.specs.CauseLaws.{IsDragged}
use Rattle.machine_model.specs.Moment.{Beginning, Moment, beginning_of, has_begun}
use Rattle.machine_model.specs.PieceLaws.{LeavesPieceOf, piece_ended, state_by_piece}
use Rattle.machine_model.specs.Progress.{staying}
use Rattle.machine_model.specs.Cascade.{cascade}
use Rattle.machine_model.specs.Laws.{open_only}
use Rattle.machine_model.specs.State.{hold_of, holdings, pending_of, process_state, progress}
use Rattle.machine_model.specs.Advance.{advance, cascade_of, drag_along}
use Rattle.machine_model.specs.Runs.{may_be_kept}
use Rattle.machine_model.proofs.Begun.{all_begin-has}
use Rattle.machine_model.proofs.Causes.{beginnings_have_causes}
use Rattle.machine_model.proofs.CoursesRuns.{started_by}
use Rattle.machine_model.proofs.Frames.{same_history}
use Rattle.machine_model.proofs.OpenCascade.{each_listed, open_holdings_drag_alike}
use Rattle.machine_model.proofs.OpenHoldings.{holders-active}
use Rattle.machine_model.proofs.OthersStay.{StaysFor, stays-beginnings, stays-hold}
use Rattle.machine_model.proofs.RunInduction.{all_begin-keep}
use Rattle.machine_model.proofs.Snoc.{all_begin-still}
use Rattle.hold_tables.specs.Changes.{changed}
use Rattle.hold_tables.specs.Tables.{OpenProcess, Tables, holdings_of, is_open, kept_of, lasts}
use Rattle.cascade.specs.Walking.{last_entries}
use Rattle.process_tree.specs.Conflicts.{do_conflict}
use Rattle.process_tree.proofs.Fixed.{fixed_le}
use Rattle.core_state.specs.declared.beginnings.Beginners.TheVariants.{DraggedBy}
use Rattle.core_state.specs.Beginnings.{AreOpen, can_begin, cause_if, cause_of, row_with, seat_with, seats_begun, tables_begun}
use Rattle.core_state.specs.Cores.{CoreState, IsCore, courses_in, history_of, moment_of, relation}
use Rattle.core_state.specs.OpenTables.{planned_of, row_of, tables_of}
use Rattle.core_state.specs.Seats.{SeatState, Stands, seat_of, seats_of}
use Rattle.core_state.proofs.BegunAll.{BeginsNow, Goes, Tells, begun_stands, goes}
use Rattle.core_state.proofs.BegunRestart.{active_apart, began_is, event_is, no_beginning, some_beginning}
use Rattle.machine_model.proofs.Started.{dragged_active}
use Rattle.core_state.proofs.HandStands.{with_event}
use Rattle.core_state.proofs.MayStand.{numbered_map}
use Rattle.core_state.proofs.SeatFacts.{has_plan}
use Rattle.core_state.proofs.SeatLists.{numbers_started, set_numbered}
use Rattle.core_state.proofs.StandingFacts.{open_by, rows_open, with_instance}
use Rattle.core_state.proofs.StoodRows.{rows_changed, same_rows}
use Rattle.core_state.proofs.TablesHoldings.{lasts_drop, own_net, tables_stand_for}

-- what stays of a process leaves its row
pub row_same : (courses : List Course) (n o : Moment) (i : ℕ) → StaysFor courses n o i → has_begun o i ≡ has_begun n i → row_of courses o i ≡ row_of courses n i
row_same courses n o i stays begun =
    ap (λ (h : Hold). record { process = i; steps = length (shape courses i).kinds; running = h.running; reserved = planned_of h.reserved; fixed = fixed_len (shape courses i) (net_steps o.events i); pending = length h.pending }) (stays-hold courses n o i stays begun)
    ∙ (let h = hold_of courses n i in
    ap (λ es. record { process = i; steps = length (shape courses i).kinds; running = h.running; reserved = planned_of h.reserved; fixed = fixed_len (shape courses i) (steps_of es); pending = length h.pending }) stays.history.net)

module _ (c : CoreState) (core : IsCore c) (k : Kept) (may : may_be_kept (relation c) (courses_in c) (moment_of c) k ≡ true) (root : ℕ) (middle : Moment) where
  abbrev cs : List Course
  cs = courses_in c

  abbrev m : Moment
  m = moment_of c

  abbrev after : Moment
  after = advance (relation c) (courses_in c) (moment_of c) k

  -- between is the moment at which others are dragged along: the root is as it will be, and the others are as they were
  pub record IsMiddle : Type 0 where
    pub drags : advance (relation c) (courses_in c) (moment_of c) k ≡ drag_along (relation c) (courses_in c) middle root
    pub nobody : started_by k ≡ []
    pub active' : is_active (moment_of c).events root ≡ true
    pub events : middle.events ≡ (moment_of c).events
    pub stays : (j : ℕ) → eqb j root ≡ false → StaysFor (courses_in c) (moment_of c) middle j
    pub begun : (j : ℕ) → eqb j root ≡ false → has_begun middle j ≡ has_begun (moment_of c) j
    pub away : (j : ℕ) → eqb j root ≡ false → LeavesPieceOf c.kept k j
    pub plain : (j : ℕ) → eqb j root ≡ false → state_by_piece k j (process_state (courses_in c) (moment_of c) j) (piece_ended c.kept k) ≡ process_state (courses_in c) (moment_of c) j
    pub causes : (j : ℕ) → eqb j root ≡ false → (b : Beginning) → has_begun (moment_of c) j ≡ false → beginning_of (advance (relation c) (courses_in c) (moment_of c) k) j ≡ Some b
        → IsDragged (relation c) (courses_in c) middle root j b.began.cause
    pub fixed : fixed_len (shape (courses_in c) root) (net_steps (moment_of c).events root) ≤ staying (progress (courses_in c) middle root)

  -- the seats and the rows with those of the root as they will be
  abbrev pub seat_between : ℕ → SeatState
  seat_between j = if eqb j root then seat_of (courses_in c) (advance (relation c) (courses_in c) (moment_of c) k) root else seat_of (courses_in c) (moment_of c) j

  abbrev pub row_between : ℕ → OpenProcess
  row_between j = if eqb j root then row_of (courses_in c) (advance (relation c) (courses_in c) (moment_of c) k) root else row_of (courses_in c) (moment_of c) j

  row_named : (j : ℕ) → (row_between j).process ≡ j
  row_named j = by_test (eqb j root) refl
    where
      by_test : (t : Bool) → eqb j root ≡ t → (if t then row_of cs after root else row_of cs m j).process ≡ j
      by_test true is = sym (eqb-true j root is)
      by_test false is = refl

  abbrev pub between : Tables
  between = record { conflicts = c.conflicts; net = active_net (holdings (courses_in c) (moment_of c)); processes = map row_between (active (moment_of c).events) }

  abbrev others : List ℕ
  others = filter (λ j. not (eqb j root)) (cascade_of (relation c) (courses_in c) middle root)

  module _ (is : IsMiddle) where
    own : eqb root root ≡ true
    own = eq-eqb root root refl

    -- once the root is as it will be
    pub seats_between : (ss : List SeatState) (s : SeatState) → ss ≡ seats_of (courses_in c) (moment_of c) → s ≡ seat_of (courses_in c) (advance (relation c) (courses_in c) (moment_of c) k) root
        → slice_set ss (root - 1) s ≡ map seat_between (numbers_from 1 (length (courses_in c)))
    seats_between ss s are its =
        let bounds = has_plan c core root (and_parts (is_in root (starts m.events)) (not (is_in root (ends m.events))) is.active').0 in
        let low = bounds.0 in
        let high = bounds.1 in
        let many = length-map c.plans course_of in
        ap (λ xs. slice_set xs (root - 1) s) are
        ∙ (ap (slice_set (seats_of cs m) (root - 1)) (its ∙ sym (ap (λ t. if t then seat_of cs after root else seat_of cs m root) own))
        ∙ set_numbered seat_between (seat_of cs m) 1 (length cs) root low (omega arith)
        (Each-weaker (λ j. is_in j (starts m.events) ≡ true) (λ j. eqb j root ≡ false → seat_of cs m j ≡ seat_between j)
        (λ j started other. sym (ap (λ t. if t then seat_of cs after root else seat_of cs m j) other)) (numbers_from 1 (length cs)) (numbers_started c core)))

    pub tables_between : (f : OpenProcess → OpenProcess) (ts : Tables) → ts ≡ tables_of c.conflicts (courses_in c) (moment_of c)
        → f (row_of (courses_in c) (moment_of c) root) ≡ row_of (courses_in c) (advance (relation c) (courses_in c) (moment_of c) k) root → changed f root ts ≡ between
    tables_between f ts are its =
        ap (changed f root) are
        ∙ ap (λ rs. record { conflicts = c.conflicts; net = active_net (holdings cs m); processes = rs })
        (rows_changed f (row_of cs m) row_between root (active m.events) (active_apart c core) (λ j. refl) (its ∙ sym (ap (λ t. if t then row_of cs after root else row_of cs m root) own))
        (λ j other. sym (ap (λ t. if t then row_of cs after root else row_of cs m j) other)) (is_active-is_in m.events root ∙ is.active'))

    has_after : (j : ℕ) → has_begun after j ≡ (has_begun middle j || is_in j others)
    has_after j = ap (λ o. has_begun o j) is.drags ∙ all_begin-has (Cascade root) middle others j

    root_stays : StaysFor cs middle after root
    root_stays = subst (λ o. StaysFor cs middle o root) (sym is.drags)
        (all_begin-keep (λ o. StaysFor cs middle o root) (stays-beginnings (relation c) cs middle root) (Cascade root) middle others
        (record { history = same_history middle.events root; refused = λ r away. refl; before = refl; begun = λ has. has; running = λ same. refl }))

    and_not : (t : Bool) → (t && not true) ≡ false
    and_not true = refl
    and_not false = refl

    root_begun : has_begun after root ≡ has_begun middle root
    root_begun =
        has_after root
        ∙ (ap (λ t. has_begun middle root || t) (is_in-filter (λ j. not (eqb j root)) root (cascade_of (relation c) cs middle root)
        ∙ (ap (λ t. is_in root (cascade_of (relation c) cs middle root) && not t) own ∙ and_not (is_in root (cascade_of (relation c) cs middle root))))
        ∙ or-false (has_begun middle root))

    row_middle : (j : ℕ) → row_between j ≡ row_of cs middle j
    row_middle j = by_test (eqb j root) refl
      where
        by_test : (t : Bool) → eqb j root ≡ t → (if t then row_of cs after root else row_of cs m j) ≡ row_of cs middle j
        by_test true at = row_same cs middle after root root_stays root_begun ∙ ap (row_of cs middle) (sym (eqb-true j root at))
        by_test false at = sym (row_same cs m middle j (is.stays j at) (is.begun j at))

    -- the tables are those of the moment between
    pub between_is : between ≡ tables_of c.conflicts (courses_in c) middle
    between_is =
        ap (λ rs. record { conflicts = c.conflicts; net = active_net (holdings cs m); processes = rs }) (same_rows row_between (row_of cs middle) (active m.events) (λ j among. row_middle j))
        ∙ (ap (λ is'. record { conflicts = c.conflicts; net = filter (λ (e : Entry). is_in e.process is') (net m.events); processes = map (row_of cs middle) (active m.events) }) (holders-active cs m)
        ∙ (ap (λ h. record { conflicts = c.conflicts; net = filter (λ (e : Entry). is_in e.process (active h)) (net h); processes = map (row_of cs middle) (active h) }) (sym is.events)
        ∙ ap (λ is'. record { conflicts = c.conflicts; net = filter (λ (e : Entry). is_in e.process is') (net middle.events); processes = map (row_of cs middle) (active middle.events) }) (sym (holders-active cs middle))))

    root_active : is_active middle.events root ≡ true
    root_active = ap (λ h. is_active h root) is.events ∙ is.active'

    root_listed : is_in root (active middle.events) ≡ true
    root_listed = is_active-is_in middle.events root ∙ root_active

    root_row : kept_of (tables_of c.conflicts cs middle) root ≡ row_of cs middle root
    root_row = numbered_map (row_of cs middle) root (active middle.events) (λ j. refl) root_listed

    root_net : of_process root (active_net (holdings cs middle)) ≡ net_of middle.events root
    root_net = own_net cs middle root root_listed

    -- what it takes back isn't fixed
    pub takes_back : (kept_of (tables_of c.conflicts (courses_in c) middle) root).pending + (kept_of (tables_of c.conflicts (courses_in c) middle) root).fixed
        ≤ length (of_process root (tables_of c.conflicts (courses_in c) middle).net)
    takes_back =
        let s = staying (progress cs middle root) in
        let pending = ap (λ (r : OpenProcess). r.pending) root_row ∙ length-drop s (net_of middle.events root) in
        let fixed = ap (λ (r : OpenProcess). r.fixed) root_row ∙ ap (λ h. fixed_len (shape cs root) (net_steps h root)) is.events in
        let most = fixed_le (shape cs root) (net_steps m.events root) in
        let steps = ap (λ h. length (net_steps h root)) (sym is.events) ∙ length-map (net_of middle.events root) (λ (e : Entry). e.step) in
        let all = ap length root_net in
        let low = is.fixed in
        omega arith

    -- each row is of a process that may start
    pub rows_numbered : length c.plans ≤ 4096 → Each (λ (r : OpenProcess). r.process ≤ 4096) (tables_of c.conflicts (courses_in c) middle).processes
    rows_numbered few = Each-map (λ (r : OpenProcess). r.process ≤ 4096) (row_of cs middle) (active middle.events)
        (Each-weaker (λ j. is_in j (active middle.events) ≡ true) (λ j. j ≤ 4096)
        (λ j among. let bounds = has_plan c core j (and_parts (is_in j (starts m.events)) (not (is_in j (ends m.events))) (sym (is_active-is_in m.events j) ∙ (ap (λ h. is_in j (active h)) (sym is.events) ∙ among))).0 in let high = bounds.1 in omega arith)
        (active middle.events) (each_listed (active middle.events)))

    -- the cascade by the tables is the machine's
    pub cascade_is : cascade (do_conflict (tables_of c.conflicts (courses_in c) middle).conflicts) (holdings_of (tables_of c.conflicts (courses_in c) middle)) root
        (last_entries (tables_of c.conflicts (courses_in c) middle) root (kept_of (tables_of c.conflicts (courses_in c) middle) root).pending) ≡ cascade_of (relation c) (courses_in c) middle root
    cascade_is =
        ap (λ g. cascade (relation c) g root (last_entries (tables_of c.conflicts cs middle) root (kept_of (tables_of c.conflicts cs middle) root).pending)) (tables_stand_for c.conflicts cs middle)
        ∙ (ap (cascade (relation c) (open_only (holdings cs middle)) root)
        (ap (λ (r : OpenProcess). lasts r.pending (of_process root (active_net (holdings cs middle)))) root_row
        ∙ (ap (lasts (length (pending_of cs middle root))) root_net ∙ lasts_drop (staying (progress cs middle root)) (net_of middle.events root)))
        ∙ open_holdings_drag_alike (relation c) cs middle root root_active)

    -- the active ones are open in them
    pub between_open : AreOpen (map seat_between (numbers_from 1 (length (courses_in c)))) between
    between_open = open_by seat_between (length cs) between (λ j some. ap (λ (t : Tables). is_open t j) between_is ∙ rows_open c.conflicts cs middle j (ap (λ h. is_active h j) is.events ∙ by_test j (eqb j root) refl some))
      where
        by_test : (j : ℕ) (t : Bool) → eqb j root ≡ t → is_some (if t then seat_of cs after root else seat_of cs m j).instance ≡ true → is_active m.events j ≡ true
        by_test j true at some = ap (is_active m.events) (eqb-true j root at) ∙ is.active'
        by_test j false at some = with_instance cs m j some

    module _ (members : List ℕ) (are : (j : ℕ) → is_in j members ≡ is_in j (cascade_of (relation c) (courses_in c) middle root)) where
      abbrev why : ℕ → Option Cause
      why = cause_of (DraggedBy root) members

      told : (j : ℕ) → eqb j root ≡ false → is_in j members ≡ true → why j ≡ Some (Cascade root)
      told j other among = ap (λ t. if not t && is_in j members then Some (Cascade root) else None) other ∙ ap (λ t. if t then Some (Cascade root) else None) among

      not_told : (j : ℕ) → eqb j root ≡ false → is_in j members ≡ false → why j ≡ None
      not_told j other out = ap (λ t. if not t && is_in j members then Some (Cascade root) else None) other ∙ ap (λ t. if t then Some (Cascade root) else None) out

      module _ (j : ℕ) (other : eqb j root ≡ false) where
        begins : has_begun m j ≡ false → has_begun after j ≡ true → BeginsNow c core k may why j
        begins was begun =
            let new = some_beginning (beginning_of after j) begun in
            let dragged = is.causes j other new.0 was new.1 in
            let has = beginnings_have_causes (relation c) cs m k j new.0 (no_beginning (beginning_of m j) was) new.1 in
            record {
              active' = sym (is_active-is_in m.events j) ∙ (ap (λ h. is_in j (active h)) (sym is.events) ∙ dragged_active (relation c) cs middle root j new.0.began.cause dragged);
              cause = Cascade root;
              told = told j other (are j ∙ dragged.2);
              beginning = new.0;
              found = new.1;
              began = began_is new.0.began (length c.kept + 1) (Cascade root) (has.1 ∙ event_is c) dragged.0;
            }

        stays : has_begun after j ≡ false → why j ≡ None
        stays begun = not_told j other (by_member (is_in j members) refl)
          where
            by_member : (t : Bool) → is_in j members ≡ t → is_in j members ≡ false
            by_member false out = out
            by_member true among =
                absurd (false≢true (sym begun ∙ (has_after j ∙ or_right (has_begun middle j) (is_in j others)
                (is_in-filter (λ i. not (eqb i root)) j (cascade_of (relation c) cs middle root) ∙ and_from (is_in j (cascade_of (relation c) cs middle root)) (not (eqb j root)) (sym (are j) ∙ among) (ap not other)))))

        tells : Tells c core k may why j
        tells = record { away = is.away j other; plain = is.plain j other; begins = begins; stays = λ was begun active'. stays begun }

      none_if : (t : Bool) (o : Option Cause) → o ≡ None → (if t then o else None) ≡ None
      none_if true o none = none
      none_if false o none = refl

      not_root : why root ≡ None
      not_root = ap (λ t. if not t && is_in root members then Some (Cascade root) else None) own

      root_goes : Goes c core k may why (seat_of cs after root) (row_of cs after root) root
      root_goes =
          let none : cause_if (seat_of cs after root) (why root) ≡ None = none_if (can_begin (seat_of cs after root)) (why root) not_root in
          record {
            seat = ap (λ o. seat_with (length c.kept + 1) o (seat_of cs after root)) none;
            row = ap (λ o. row_with (seat_of cs after root) o (row_of cs after root)) none;
            idle = λ out. none;
          }

      each_goes : (j : ℕ) → is_in j (starts m.events) ≡ true → Goes c core k may why (seat_between j) (row_between j) j
      each_goes j started = by_test (eqb j root) refl
        where
          by_test : (t : Bool) → eqb j root ≡ t → Goes c core k may why (if t then seat_of cs after root else seat_of cs m j) (if t then row_of cs after root else row_of cs m j) j
          by_test true at = subst (Goes c core k may why (seat_of cs after root) (row_of cs after root)) (sym (eqb-true j root at)) root_goes
          by_test false at = goes c core k may why j started (tells j at)

      still : after.events ≡ m.events
      still = ap (λ (o : Moment). o.events) is.drags ∙ ((all_begin-still (Cascade root) middle others).events ∙ is.events)

      -- a core stands after the event
      pub dragged_stands : (h : List Event) (ss : List SeatState) (ts : Tables) → history_of c ≡ h → ss ≡ map seat_between (numbers_from 1 (length (courses_in c))) → ts ≡ between
          → Stands (with_event c k) h (seats_begun (cause_of (DraggedBy root) members) (length c.kept + 1) (length ss) ss) (tables_begun (cause_of (DraggedBy root) members) ss (length ss) ts)
      dragged_stands h ss ts events seats tables = begun_stands c core k may why is.nobody still (active_apart c core) seat_between row_between row_named each_goes h ss ts events seats tables
