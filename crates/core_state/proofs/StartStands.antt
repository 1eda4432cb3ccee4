-- After a start what is kept is what was kept, with one seat and one row more.
use Rattle.std.proofs.Common.{◌≡◌, ◌⊎◌, inl, inr, ℕ, zero, suc, ◌+◌, ◌<◌, Bool, true, false, ◌||◌, List, [], ◌∷◌, ◌++◌, length, map, filter, Some, None, sym, refl, ap, subst, ◌∙◌, length-append, arith}
use Rattle.std.specs.List.{Contains}
use Rattle.std.proofs.lemmas.Bool.{and_parts}
use Rattle.std.proofs.lemmas.List.{map-append}
use Rattle.std.proofs.lemmas.List.Elements.{Contains-append_cases}
use Rattle.process_tree.specs.Blocks.{numbers_from, outline}
use Rattle.process_tree.specs.Conflicts.{operations_in}
use Rattle.process_tree.specs.Order.{Each}
use Rattle.process_tree.specs.declared.entry.Entry.{Entry}
use Rattle.process_tree.specs.declared.plan.Plan.{Plan}
use Rattle.process_tree.proofs.Every.{Each-weaker}
use Rattle.schedule_model.specs.Conflict.{no_conflict}
use Rattle.schedule_model.specs.Course.{Course, course_of}
use Rattle.schedule_model.specs.Histories.{active, is_in, net, starts}
use Rattle.schedule_model.specs.Holdings.{active_net}
use Rattle.schedule_model.specs.Laws.{IsGoodPlan}
use Rattle.schedule_model.specs.declared.event.Event.{Event}
use Rattle.schedule_model.specs.declared.event.Event.TheVariants.{Start as Started}
use Rattle.schedule_model.proofs.Active.{is_active-is_in}
use Rattle.schedule_model.proofs.Appends.{is_in-append}
use Rattle.schedule_model.proofs.Members.{filter-agree}
use Rattle.schedule_model.proofs.Snoc.{net-start}
use Rattle.schedule_model.proofs.Started.{net-started}
use Rattle.machine_model.specs.declared.kept.Kept.TheVariants.{Start}
use Rattle.machine_model.specs.Moment.{Moment}
use Rattle.machine_model.specs.State.{holdings}
use Rattle.machine_model.specs.Runs.{now, start_refusal}
use Rattle.machine_model.specs.Laws.{IsSession}
use Rattle.machine_model.proofs.OpenCascade.{each_listed}
use Rattle.machine_model.proofs.OpenHoldings.{holders-active}
use Rattle.machine_model.proofs.SessionCalls.{started_session}
use Rattle.instance_state.specs.Instances.{opened as instance_opened}
use Rattle.hold_tables.specs.Changes.{opened}
use Rattle.hold_tables.specs.Tables.{Tables, holds_nothing}
use Rattle.core_state.specs.Cores.{CoreState, IsCore, courses_in, machine_of, moment_of, relation}
use Rattle.core_state.specs.OpenTables.{row_of, tables_of}
use Rattle.core_state.specs.Seats.{SeatState, Stands, seat_of, seats_of}
use Rattle.core_state.proofs.OpenedRows.{starts_numbered}
use Rattle.core_state.proofs.StartedProcesses.{numbers_more}
use Rattle.core_state.proofs.StartMoments.{active_after, after_start, another, as_many, moment_after, own, row_stays, seat_stays}
use Rattle.core_state.proofs.StartOwn.{row_new, seat_new}

same_each : {X : Type 0} (f g : ℕ → X) (is : List ℕ) → Each (λ k. f k ≡ g k) is → map f is ≡ map g is
same_each f g [] each = refl
same_each f g (k ∷ is) each = ap (λ x. x ∷ map f is) each.0 ∙ ap (λ xs. g k ∷ xs) (same_each f g is each.1)

only_one : {X : Type 0} (x y : X) → Contains (x ∷ []) y → x ≡ y
only_one x y (zero, within, is) = is
only_one x y (suc k, within, is) = absurd (omega arith)

-- the core after a start of this plan
abbrev pub with_start : CoreState → Plan → CoreState
with_start c p = record { conflicts = c.conflicts; plans = c.plans ++ p ∷ []; opening = c.opening; kept = c.kept ++ Start (length (starts (moment_of c).events) + 1) ∷ []; served = c.served }

module _ (c : CoreState) (core : IsCore c) (p : Plan) where
  abbrev cs : List Course
  cs = courses_in c

  abbrev ds : List Course
  ds = courses_in c ++ course_of p ∷ []

  abbrev m : Moment
  m = moment_of c

  abbrev i : ℕ
  i = length (starts (moment_of c).events) + 1

  abbrev after : Moment
  after = after_start (moment_of c)

  started_each : (is : List ℕ) → is ≡ starts m.events → Each (λ k. is_in k (starts m.events) ≡ true) is
  started_each is are = subst (λ ks. Each (λ k. is_in k (starts m.events) ≡ true) ks) (sym are) (each_listed (starts m.events))

  numbers : numbers_from 1 (length cs) ≡ starts m.events
  numbers = ap (numbers_from 1) (as_many c core p) ∙ sym (starts_numbered cs m.events (own c core p).legal)

  seats_after : seats_of ds after ≡ seats_of cs m ++ record { instance = Some (instance_opened p []); out = None; lost = None; began = None } ∷ []
  seats_after =
      let n = length cs in
      let next : 1 + n ≡ i = (let all = as_many c core p in omega arith) in
      ap (λ k. map (seat_of ds after) (numbers_from 1 k)) (length-append cs (course_of p ∷ []))
      ∙ (ap (map (seat_of ds after)) (numbers_more 1 n)
      ∙ (map-append (seat_of ds after) (numbers_from 1 n) ((1 + n) ∷ [])
      ∙ (ap (λ k. map (seat_of ds after) (numbers_from 1 n) ++ seat_of ds after k ∷ []) next
      ∙ (ap (λ ss. ss ++ seat_of ds after i ∷ []) (same_each (seat_of ds after) (seat_of cs m) (numbers_from 1 n)
      (Each-weaker (λ k. is_in k (starts m.events) ≡ true) (λ k. seat_of ds after k ≡ seat_of cs m k) (seat_stays c core p) (numbers_from 1 n) (started_each (numbers_from 1 n) numbers)))
      ∙ ap (λ s. seats_of cs m ++ s ∷ []) (seat_new c core p)))))

  or_false : (a : Bool) → (a || false) ≡ a
  or_false true = refl
  or_false false = refl

  net_after : active_net (holdings ds after) ≡ active_net (holdings cs m)
  net_after =
      ap (λ is. filter (λ (e : Entry). is_in e.process is) (net after.events)) (holders-active ds after ∙ active_after c core p)
      ∙ (ap (filter (λ (e : Entry). is_in e.process (active m.events ++ i ∷ []))) (net-start m.events i)
      ∙ (filter-agree (λ (e : Entry). is_in e.process (active m.events ++ i ∷ [])) (λ e. is_in e.process (active m.events)) (net m.events)
      (λ e among. is_in-append e.process (active m.events) (i ∷ [])
      ∙ (ap (λ t. is_in e.process (active m.events) || (t || false)) (another c core p e.process (net-started no_conflict cs m.events (own c core p).legal e among)) ∙ or_false (is_in e.process (active m.events))))
      ∙ ap (λ is. filter (λ (e : Entry). is_in e.process is) (net m.events)) (sym (holders-active cs m))))

  rows_after : map (row_of ds after) (active after.events) ≡ map (row_of cs m) (active m.events) ++ holds_nothing i (length (outline p.tree).steps) ∷ []
  rows_after =
      ap (map (row_of ds after)) (active_after c core p)
      ∙ (map-append (row_of ds after) (active m.events) (i ∷ [])
      ∙ (ap (λ rs. rs ++ row_of ds after i ∷ []) (same_each (row_of ds after) (row_of cs m) (active m.events)
      (Each-weaker (λ k. is_in k (active m.events) ≡ true) (λ k. row_of ds after k ≡ row_of cs m k)
      (λ k is. row_stays c core p k (and_parts (is_in k (starts m.events)) _ (sym (is_active-is_in m.events k) ∙ is)).0) (active m.events) (each_listed (active m.events))))
      ∙ ap (λ r. map (row_of cs m) (active m.events) ++ r ∷ []) (row_new c core p)))

  tables_after : tables_of c.conflicts ds after ≡ opened i (length (outline p.tree).steps) (tables_of c.conflicts cs m)
  tables_after =
      ap (λ es. record { conflicts = c.conflicts; net = es; processes = map (row_of ds after) (active after.events) }) net_after
      ∙ ap (λ rs. record { conflicts = c.conflicts; net = active_net (holdings cs m); processes = rs }) rows_after

  module _ (good : IsGoodPlan p) (known : Each (λ op. op < operations_in c.conflicts) p.ops) (none : start_refusal cs m (course_of p) ≡ None) where
    courses_after : ds ≡ courses_in (with_start c p)
    courses_after = sym (map-append course_of c.plans (p ∷ []))

    session_after : IsSession (relation c) (c.plans ++ p ∷ []) (machine_of (with_start c p))
    session_after = subst (λ xs. IsSession (relation c) (c.plans ++ p ∷ []) (record { opening = c.opening; courses = xs; kept = c.kept ++ Start i ∷ []; served = c.served })) courses_after
        (started_session (relation c) c.plans (machine_of c) core.session p good none)

    core_after : IsCore (with_start c p)
    core_after = record { session = session_after; known = λ q among. by_part q (Contains-append_cases c.plans (p ∷ []) q among) }
      where
        by_part : (q : Plan) → Contains c.plans q ⊎ Contains (p ∷ []) q → Each (λ op. op < operations_in c.conflicts) q.ops
        by_part q (inl before) = core.known q before
        by_part q (inr this) = subst (λ (x : Plan). Each (λ op. op < operations_in c.conflicts) x.ops) (only_one p q this) known

    moment_is : moment_of (with_start c p) ≡ after
    moment_is = ap (λ xs. now (relation c) (record { opening = c.opening; courses = xs; kept = c.kept ++ Start i ∷ []; served = c.served })) (sym courses_after) ∙ moment_after c core p

    -- so it stands
    pub start_stands : (h : List Event) (ss : List SeatState) (ts : Tables) → Stands c h ss ts
        → Stands (with_start c p) (h ++ Started (length (starts (moment_of c).events) + 1) ∷ []) (ss ++ record { instance = Some (instance_opened p []); out = None; lost = None; began = None } ∷ []) (opened (length (starts (moment_of c).events) + 1) (length (outline p.tree).steps) ts)
    start_stands h ss ts stands = record {
      core = core_after;
      events = ap (λ (o : Moment). o.events) moment_is ∙ ap (λ es. es ++ Started i ∷ []) stands.events;
      seats = sym (ap (λ xs. seats_of xs (moment_of (with_start c p))) (sym courses_after) ∙ (ap (seats_of ds) moment_is ∙ (seats_after ∙ ap (λ xs. xs ++ record { instance = Some (instance_opened p []); out = None; lost = None; began = None } ∷ []) (sym stands.seats))));
      tables = sym (ap (λ xs. tables_of c.conflicts xs (moment_of (with_start c p))) (sym courses_after) ∙ (ap (tables_of c.conflicts ds) moment_is ∙ (tables_after ∙ ap (opened i (length (outline p.tree).steps)) (sym stands.tables))));
    }
