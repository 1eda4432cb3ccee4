-- What is queued stays so through calls that end no piece.
use Rattle.std.proofs.Common.{◌≡◌, ◌∙◌, ◌≤◌, ◌+◌, ◌-◌, ◌||◌, ◌&&◌, not, cond, arith, length, map, filter, slice_index_or, ℕ, zero, suc, false, List, [], ◌∷◌, ◌++◌, if◌then◌else◌, Bool, true, Option, Some, None, refl, sym, ap, subst}
use Rattle.std.specs.Prelude.{nat_eq}
use Rattle.std.specs.List.{slice_get}
use Rattle.std.proofs.lemmas.Bool.{or_from, false≢true}
use Rattle.std.proofs.lemmas.List.{get_or_append_left, length-map, map-append}
use Rattle.process_tree.specs.Blocks.{outline}
use Rattle.process_tree.specs.declared.step.Step.{Step}
use Rattle.process_tree.specs.Order.{Each}
use Rattle.process_tree.proofs.Every.{Each-weaker}
use Rattle.process_tree.specs.declared.plan.Plan.{Plan}
use Rattle.schedule_model.specs.Conflict.{ConflictRelation}
use Rattle.schedule_model.specs.Course.{Course, course, course_of, courses_of}
use Rattle.schedule_model.specs.Histories.{active, ends, is_in, starts}
use Rattle.schedule_model.proofs.Appends.{is_in-append}
use Rattle.schedule_model.proofs.Snoc.{active-start}
use Rattle.machine_model.specs.declared.kept.Kept.{Kept}
use Rattle.machine_model.specs.declared.kept.Kept.TheVariants.{Restart, Victim}
use Rattle.machine_model.specs.declared.replies.Aborted.{Aborted}
use Rattle.machine_model.specs.declared.replies.Aborted.TheVariants as aborts
use Rattle.machine_model.specs.declared.kept.Work.TheVariants.{Forward}
use Rattle.machine_model.specs.declared.replies.StartWhy.{StartWhy}
use Rattle.machine_model.specs.Advance.{advance, advance_all}
use Rattle.machine_model.specs.Calls.{abort, abort_kept, admit, admit_kept, complete_all, next, next_kept, start, start_unless, started as started_as}
use Rattle.machine_model.specs.Moment.{Moment, Piece}
use Rattle.machine_model.specs.Pieces.{is_finished, piece_of}
use Rattle.machine_model.specs.Progress.{same_work}
use Rattle.machine_model.specs.Replies.{Admit, Handed, Next, abort_reply, admit_reply, all_ended, all_victims, blocked, chosen, ended, exhausted, next_reply, piece, running, stuck, unknown, victim_then, victims, wait}
use Rattle.machine_model.specs.Runs.{may_be_kept, start_refusal}
use Rattle.machine_model.specs.State.{victim_of}
use Rattle.machine_model.proofs.Snoc.{is_finished-append}
use Rattle.machine_model.proofs.TidyMoments.{piece_of-more}
use Rattle.core_state.proofs.SeatFacts.{handed_has_plan}
use Rattle.process_core.specs.Answers.{after_call, after_start, answer_in}
use Rattle.process_core.specs.Cores.{CoreState, IsCore, courses_in, history_of, moment_of, relation}
use Rattle.process_journal.proofs.GoodPlans.{course_before}
use Rattle.subsystem_store.specs.Opened.{Opened}
use Rattle.history_files.specs.Effects.{key_of, steps_of_process, subsystem_of}
use Rattle.history_files.specs.Rooms.{HasRoomAt}
use Rattle.engine_steps.specs.Beginning.{history_with}
use Rattle.engine_steps.specs.Engines.{EngineState, full_history, with_core}
use Rattle.engine_steps.specs.Pieces.{act_of}
use Rattle.engine_steps.proofs.SameHistory.{abort_same, admit_same, complete_all_same, next_same}
use Rattle.engine_steps.proofs.StartedHistory.{history_after}
use Rattle.process_engine.specs.Queues.{AreQueued, HasRoomFor, IsOfActive, IsUnfinished, is_step_on, pieces_of}

-- the steps of each plan
abbrev steps_in : Plan → List Step
steps_in p = (outline p.tree).steps

-- these events end no piece
abbrev pub EndNothing : List Kept → Type 0
EndNothing ks = (n : ℕ) → is_finished ks n ≡ false

both_end_nothing : (ks js : List Kept) → EndNothing ks → EndNothing js → EndNothing (ks ++ js)
both_end_nothing ks js first second n = is_finished-append ks js n ∙ or_from (is_finished ks n) (is_finished js n) (first n) (second n)

victim_ends_nothing : (rest : ℕ → List Kept) → ((i : ℕ) → EndNothing (rest i)) → (o : Option ℕ) → EndNothing (victim_then rest o)
victim_ends_nothing rest none None n = refl
victim_ends_nothing rest none (Some i) n = none i n

victims_end_nothing : (k : ℕ) (table : ConflictRelation) (courses : List Course) (m : Moment) → EndNothing (victims k table courses m)
victims_end_nothing zero table courses m n = refl
victims_end_nothing (suc k) table courses m n =
    victim_ends_nothing (λ i. victims k table courses (advance table courses m (Victim i))) (λ i. victims_end_nothing k table courses (advance table courses m (Victim i))) (victim_of table courses m) n

next_ends_nothing : (r : Next) → EndNothing (next_kept r)
next_ends_nothing (chosen d) n = refl
next_ends_nothing (wait w) n = refl
next_ends_nothing all_ended n = refl
next_ends_nothing (stuck i) n = refl

admit_ends_nothing : (r : Admit) → EndNothing (admit_kept r)
admit_ends_nothing (piece d) n = refl
admit_ends_nothing (blocked b) n = refl
admit_ends_nothing running n = refl
admit_ends_nothing unknown n = refl
admit_ends_nothing ended n = refl
admit_ends_nothing (exhausted b) n = refl

abort_ends_nothing : (i : ℕ) (r : Aborted) → EndNothing (abort_kept i r)
abort_ends_nothing i aborts.Ok n = refl
abort_ends_nothing i aborts.Unknown n = refl
abort_ends_nothing i aborts.Ended n = refl
abort_ends_nothing i aborts.Exhausted n = refl
abort_ends_nothing i aborts.Already n = refl

restart_ends_nothing : (b : Bool) → EndNothing (if b then Restart ∷ [] else [])
restart_ends_nothing true n = refl
restart_ends_nothing false n = refl

unfinished_still : (old new : CoreState) (added : List Kept) → new.kept ≡ old.kept ++ added → EndNothing added → (p : Piece) → IsUnfinished old p → IsUnfinished new p
unfinished_still old new added is none p was = record {
  handed = subst (λ ks. piece_of ks p.number ≡ Some p) (sym is) (piece_of-more old.kept added p.number p was.handed);
  unfinished = ap (λ ks. is_finished ks p.number) is ∙ (is_finished-append old.kept added p.number ∙ or_from _ _ was.unfinished (none p.number));
}

-- what is queued depends on these plans and stores, beside the pieces
module _ {R B : Type 0} (e : EngineState R B) (group : List Handed) (queued : AreQueued e group) where
  abbrev HasRoomBy : List Plan → Piece → Type 0
  HasRoomBy plans p = p.work ≡ Forward → HasRoomAt (subsystem_of e.catalog.ops (act_of plans p).op) (key_of plans p.process p.step) e.files.stores

  abbrev HasPlacesBy : List Plan → Type 0
  HasPlacesBy plans = (q : ℕ) (s : Opened B) → slice_get e.files.stores q ≡ Some s → length (filter (is_step_on e.catalog.ops plans q) (pieces_of group)) ≤ length s.ready

  -- where a call of the same processes ends no piece, what is queued stays so
  stays : (c : CoreState) (added : List Kept) → c.plans ≡ e.core.plans → c.kept ≡ e.core.kept ++ added → EndNothing added → full_history c ≡ full_history e.core → AreQueued (with_core e c) group
  stays c added plans kept none same = record {
    unfinished = Each-weaker (IsUnfinished e.core) (IsUnfinished c) (unfinished_still e.core c added kept none) (pieces_of group) queued.unfinished;
    distinct = queued.distinct;
    active = subst (λ h. Each (λ (p : Piece). is_in p.process (active h.events) ≡ true) (pieces_of group)) (sym same) queued.active;
    room = subst (λ ps. Each (HasRoomBy ps) (pieces_of group)) (sym plans) queued.room;
    places = subst (λ ps. HasPlacesBy ps) (sym plans) queued.places;
  }

  -- So it does where any piece is asked for,
  pub queued_at_next : AreQueued (with_core e (after_call e.core next)) group
  queued_at_next =
      let vs = all_victims (relation e.core) (courses_in e.core) (moment_of e.core) in
      let reply = next_reply (relation e.core) (courses_in e.core) (advance_all (relation e.core) (courses_in e.core) (moment_of e.core) vs) e.core.served in
      stays (after_call e.core next) (vs ++ next_kept reply) refl refl
      (both_end_nothing vs (next_kept reply) (victims_end_nothing (length (active (moment_of e.core).events)) (relation e.core) (courses_in e.core) (moment_of e.core)) (next_ends_nothing reply)) (next_same e.core)

  -- or one of a process,
  pub queued_at_admit : (i : ℕ) → AreQueued (with_core e (after_call e.core (admit i))) group
  queued_at_admit i =
      let reply = admit_reply (relation e.core) (courses_in e.core) (moment_of e.core) i in
      stays (after_call e.core (admit i)) (admit_kept reply) refl refl (admit_ends_nothing reply) (admit_same e.core i)

  -- where a process is asked to complete,
  pub queued_at_abort : (i : ℕ) → AreQueued (with_core e (after_call e.core (abort i))) group
  queued_at_abort i =
      let reply = abort_reply (courses_in e.core) (moment_of e.core) i in
      stays (after_call e.core (abort i)) (abort_kept i reply) refl refl (abort_ends_nothing i reply) (abort_same e.core i)

  -- or all are,
  pub queued_at_complete_all : AreQueued (with_core e (after_call e.core complete_all)) group
  queued_at_complete_all =
      let may = may_be_kept (relation e.core) (courses_in e.core) (moment_of e.core) Restart in
      stays (after_call e.core complete_all) (if may then Restart ∷ [] else []) refl refl (restart_ends_nothing may) (complete_all_same e.core)

-- With a plan more, what was queued stays so.
module _ {R B : Type 0} (e new : EngineState R B) (plan : Plan) (core : IsCore e.core) (is : new.core ≡ after_start e.core plan) (number : ℕ) (reply : (answer_in e.core (start (course_of plan))).reply ≡ started_as number) (catalog : new.catalog ≡ e.catalog) (stores : new.files.stores ≡ e.files.stores)
    (group : List Handed) (queued : AreQueued e group) where
  abbrev more : List Plan
  more = e.core.plans ++ plan ∷ []

  course_same : (p : Piece) → IsUnfinished e.core p → course (courses_of e.core.plans) p.process ≡ course (courses_of more) p.process
  course_same p unfinished = let bounds = handed_has_plan e.core core p unfinished.handed in course_before e.core.plans plan p.process bounds.0 bounds.1

  steps_same : (p : Piece) → IsUnfinished e.core p → steps_of_process e.core.plans p.process ≡ steps_of_process more p.process
  steps_same p unfinished =
      let bounds = handed_has_plan e.core core p unfinished.handed in
      let long = length-map e.core.plans steps_in in
      let low = bounds.0 in
      let high = bounds.1 in
      sym (get_or_append_left (map steps_in e.core.plans) (steps_in plan ∷ []) [] (p.process - 1) (omega (arith, long, low, high)))
      ∙ ap (λ ss. slice_index_or ss (p.process - 1) []) (sym (map-append steps_in e.core.plans (plan ∷ [])))

  abbrev HasRoomThen : Piece → Type 0
  HasRoomThen p = p.work ≡ Forward → HasRoomAt (subsystem_of e.catalog.ops (act_of more p).op) (key_of more p.process p.step) e.files.stores

  room_then : (p : Piece) → IsUnfinished e.core p → HasRoomFor e p → HasRoomThen p
  room_then p unfinished room forward =
      subst (λ (x : Course). HasRoomAt (subsystem_of e.catalog.ops (slice_index_or x.ops p.step 0)) (key_of more p.process p.step) e.files.stores) (course_same p unfinished)
      (subst (λ ss. HasRoomAt (subsystem_of e.catalog.ops (act_of e.core.plans p).op) (slice_index_or (map (λ (s : Step). s.key) ss) p.step 0) e.files.stores) (steps_same p unfinished) (room forward))

  rooms_then : (ps : List Piece) → Each (IsUnfinished e.core) ps → Each (HasRoomFor e) ps → Each HasRoomThen ps
  rooms_then [] each rooms = tt
  rooms_then (p ∷ ps) each rooms = (room_then p each.0 rooms.0, rooms_then ps each.1 rooms.1)

  -- the start isn't refused
  free_by : (o : Option StartWhy) → (start_unless (length (starts (history_of e.core)) + 1) e.core.served (course_of plan) o).reply ≡ started_as number → o ≡ None
  free_by None is = refl
  free_by (Some why) is = cc

  free : start_refusal (courses_in e.core) (moment_of e.core) (course_of plan) ≡ None
  free = free_by (start_refusal (courses_in e.core) (moment_of e.core) (course_of plan)) reply

  -- and who is active stays so
  still_active : (p : Piece) → IsOfActive e.core p → is_in p.process (active (history_with e.core plan).events) ≡ true
  still_active p was =
      ap (is_in p.process) (active-start (history_of e.core) (length e.core.plans + 1))
      ∙ is_in-append p.process (active (history_of e.core)) (filter (λ k. not (is_in k (ends (history_of e.core)))) ((length e.core.plans + 1) ∷ []))
      ∙ ap (λ b. b || is_in p.process (filter (λ k. not (is_in k (ends (history_of e.core)))) ((length e.core.plans + 1) ∷ []))) was

  -- each step is on the same subsystem
  same_step : (q : ℕ) (p : Piece) → IsUnfinished e.core p → is_step_on e.catalog.ops more q p ≡ is_step_on e.catalog.ops e.core.plans q p
  same_step q p unfinished = ap (λ (x : Course). same_work p.work Forward && nat_eq (subsystem_of e.catalog.ops (slice_index_or x.ops p.step 0)) q) (sym (course_same p unfinished))

  as_many : (q : ℕ) (ps : List Piece) → Each (IsUnfinished e.core) ps → length (filter (is_step_on e.catalog.ops more q) ps) ≡ length (filter (is_step_on e.catalog.ops e.core.plans q) ps)
  as_many q [] each = refl
  as_many q (p ∷ ps) each = by (is_step_on e.catalog.ops more q p) (is_step_on e.catalog.ops e.core.plans q p) (same_step q p each.0) (as_many q ps each.1)
    where
      by : (b d : Bool) → b ≡ d → length (filter (is_step_on e.catalog.ops more q) ps) ≡ length (filter (is_step_on e.catalog.ops e.core.plans q) ps)
          → length (cond b (p ∷ filter (is_step_on e.catalog.ops more q) ps) (filter (is_step_on e.catalog.ops more q) ps)) ≡ length (cond d (p ∷ filter (is_step_on e.catalog.ops e.core.plans q) ps) (filter (is_step_on e.catalog.ops e.core.plans q) ps))
      by true true is rest = omega (arith, rest)
      by true false is rest = absurd (false≢true (sym is))
      by false true is rest = absurd (false≢true is)
      by false false is rest = rest

  start_ends_nothing : (o : Option StartWhy) → EndNothing (start_unless (length (starts (history_of e.core)) + 1) e.core.served (course_of plan) o).kept
  start_ends_nothing None n = refl
  start_ends_nothing (Some why) n = refl

  abbrev begun : EngineState R B
  begun = record { core = after_start e.core plan; catalog = e.catalog; files = new.files; phase = new.phase }

  at_start : AreQueued begun group
  at_start = record {
    unfinished = Each-weaker (IsUnfinished e.core) (IsUnfinished (after_start e.core plan))
        (unfinished_still e.core (after_start e.core plan) (answer_in e.core (start (course_of plan))).kept refl (start_ends_nothing (start_refusal (courses_in e.core) (moment_of e.core) (course_of plan))))
        (pieces_of group) queued.unfinished;
    distinct = queued.distinct;
    active = subst (λ h. Each (λ (p : Piece). is_in p.process (active h.events) ≡ true) (pieces_of group)) (sym (history_after e.core core plan free))
        (Each-weaker (IsOfActive e.core) (λ (p : Piece). is_in p.process (active (history_with e.core plan).events) ≡ true) still_active (pieces_of group) queued.active);
    room = subst (λ ss. Each (λ (p : Piece). p.work ≡ Forward → HasRoomAt (subsystem_of e.catalog.ops (act_of more p).op) (key_of more p.process p.step) ss) (pieces_of group)) (sym stores)
        (rooms_then (pieces_of group) queued.unfinished queued.room);
    places = λ q s at.
        let places = queued.places q s (subst (λ ss. slice_get ss q ≡ Some s) stores at) in
        omega (arith, places, as_many q (pieces_of group) queued.unfinished);
  }

  pub queued_at_start : AreQueued new group
  queued_at_start =
      subst (λ k. AreQueued (record { core = k; catalog = new.catalog; files = new.files; phase = new.phase }) group) (sym is)
      (subst (λ c. AreQueued (record { core = after_start e.core plan; catalog = c; files = new.files; phase = new.phase }) group) (sym catalog) at_start)
