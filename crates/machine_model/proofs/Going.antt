-- Where no active process is exhausted, a request for any piece isn't answered that one is stuck: a victim makes nobody exhausted,
-- and once all that are active have begun to complete, one of them is free.
use Rattle.std.proofs.Common.{◌≡◌, ◌≢◌, ◌⊎◌, inl, inr, ⊎_elim, ℕ, zero, suc, Bool, true, false, not, eqb, ◌&&◌, if◌then◌else◌, List, [], ◌∷◌, length, map, filter, Option, Some, None, is_some, unwrap_or, sym, refl, ap, subst, ◌∙◌, append-nil}
use Rattle.std.specs.Bool.{IsTrue}
use Rattle.std.specs.List.{list_any}
use Rattle.std.specs.Option.{option_or}
use Rattle.std.proofs.lemmas.Bool.{and_parts, and_from, or_cases, or_left, eq-eqb, eqb-true, not-true, false≢true}
use Rattle.process_tree.specs.Order.{Each}
use Rattle.process_tree.specs.Shape.{first_of, least}
use Rattle.process_tree.specs.declared.entry.Entry.{Entry}
use Rattle.process_tree.specs.declared.plan.Plan.{Plan}
use Rattle.process_tree.proofs.Every.{Each-weaker}
use Rattle.process_tree.proofs.Numbers.{least_some}
use Rattle.schedule_model.specs.declared.event.Event.{Event}
use Rattle.schedule_model.specs.Course.{Course, course, courses_of}
use Rattle.schedule_model.specs.Conflict.{ConflictRelation}
use Rattle.schedule_model.specs.Histories.{active, ends, is_active, is_in, net, same_step, starts}
use Rattle.schedule_model.specs.Laws.{AreGood}
use Rattle.schedule_model.proofs.Active.{is_active-is_in, is_in-filter}
use Rattle.machine_model.specs.declared.blocked.Blocked.{Blocked}
use Rattle.machine_model.specs.declared.kept.Kept.TheVariants.{Victim}
use Rattle.machine_model.specs.Moment.{Moment, has_begun, opening_moment}
use Rattle.machine_model.specs.Progress.{next_task, same_task}
use Rattle.machine_model.specs.ProcessState.{ProcessState, are_used_up, begun, completing, has_used_up, next_piece, tries_in}
use Rattle.machine_model.specs.State.{block_of, is_blocked, is_exhausted, is_pending, pending_of, process_state, undo_next, victim_of}
use Rattle.machine_model.specs.Advance.{Machine, advance, advance_all}
use Rattle.machine_model.specs.Runs.{goes_on_from, is_victim, may_be_kept, now}
use Rattle.machine_model.specs.Calls.{answer_next, next_is}
use Rattle.machine_model.specs.Replies.{Next, all_victims, stuck, victim_then, victims}
use Rattle.machine_model.specs.CallLaws.{IsStuck, StuckIsExact}
use Rattle.machine_model.specs.PieceLaws.{begun_where}
use Rattle.machine_model.specs.Laws.{AllHaveBegun, IsSession, ProgressLaw, next_in_restart}
use Rattle.machine_model.proofs.Allowances.{course_tries, left_at_first}
use Rattle.machine_model.proofs.CallsKept.{victims-kept}
use Rattle.machine_model.proofs.GonePieces.{last_listed}
use Rattle.machine_model.proofs.LastElements.{all_pass}
use Rattle.machine_model.proofs.OneCounter.{CountsStand, advance-counts, session-counts}
use Rattle.machine_model.proofs.RestartFree.{restart_is_free}
use Rattle.machine_model.proofs.SessionCalls.{session-longer, victims_start}
use Rattle.machine_model.proofs.Snoc.{advances, advance_all-append, goes_on-append, keeping}
use Rattle.machine_model.proofs.StateSteps.{advance-state, same_is}
use Rattle.machine_model.proofs.Stuck.{SaysStuck, stuck-if, stuck-only}
use Rattle.machine_model.proofs.Victims.{victims_run_dry}

-- a process that begins to complete isn't exhausted anew: its next piece was refused as often as before, or never
begun_left : (c : Course) (s : ProcessState) → ((b : ℕ) (w : _) → are_used_up (tries_in c b w) 0 ≡ false) → has_used_up c s ≡ false → has_used_up c (begun s) ≡ false
begun_left c s fresh left = by_same (same_task (next_piece s) (next_task (completing s.progress))) refl
  where
    by_same : (u : Bool) → same_task (next_piece s) (next_task (completing s.progress)) ≡ u
        → are_used_up (tries_in c (next_task (completing s.progress)).step (next_task (completing s.progress)).work) (if u then s.refused else 0) ≡ false
    by_same true at =
        let t = next_piece s in
        let n = next_task (completing s.progress) in
        let its = same_is t n at in
        ap (λ w. are_used_up (tries_in c n.step w) s.refused) (sym its.0) ∙ (ap (λ b. are_used_up (tries_in c b t.work) s.refused) (sym its.1) ∙ left)
    by_same false at = fresh (next_task (completing s.progress)).step (next_task (completing s.progress)).work

begun_where_left : (c : Course) (has : Bool) (s : ProcessState) → ((b : ℕ) (w : _) → are_used_up (tries_in c b w) 0 ≡ false) → has_used_up c s ≡ false → has_used_up c (begun_where has s) ≡ false
begun_where_left c has s fresh left = by_test (has && not s.progress.begun)
  where
    by_test : (t : Bool) → has_used_up c (if t then begun s else s) ≡ false
    by_test true = begun_left c s fresh left
    by_test false = left

-- no active process is exhausted
abbrev pub NoneExhausted : List Course → Moment → Type 0
NoneExhausted courses m = (i : ℕ) → is_active m.events i ≡ true → is_exhausted courses m i ≡ false

module _ (table : ConflictRelation) (plans : List Plan) (good : AreGood plans) where
  abbrev cs : List Course
  cs = courses_of plans

  victim_may : (m : Moment) (v : ℕ) → victim_of table cs m ≡ Some v → may_be_kept table cs m (Victim v) ≡ true
  victim_may m v is = ap (is_victim v) is ∙ eq-eqb v v refl

  -- a victim makes nobody exhausted
  victim_none : (m : Moment) (v : ℕ) → CountsStand table plans good m → victim_of table cs m ≡ Some v → NoneExhausted cs m → NoneExhausted cs (advance table cs m (Victim v))
  victim_none m v counts is none i active' =
      let after = advance table cs m (Victim v) in
      let open' = not-true (is_in i (ends after.events)) (and_parts (is_in i (starts after.events)) (not (is_in i (ends after.events))) active').1 in
      let before : is_active m.events i ≡ true = ap (λ h. is_active h i) (sym ((advances table cs m (Victim v)).events ∙ append-nil m.events)) ∙ active' in
      ap (has_used_up (course cs i)) (advance-state table plans good m (Victim v) i counts (victim_may m v is) open' (λ no. absurd no))
      ∙ begun_where_left (course cs i) (has_begun after i) (process_state cs m i) (left_at_first (course cs i) (course_tries plans good i)) (none i before)

  none_by : (n : ℕ) (m : Moment) → ((o : Moment) → CountsStand table plans good o → NoneExhausted cs o → NoneExhausted cs (advance_all table cs o (victims n table cs o)))
      → CountsStand table plans good m → NoneExhausted cs m → (o : Option ℕ) → victim_of table cs m ≡ o
      → NoneExhausted cs (advance_all table cs m (victim_then (λ v. victims n table cs (advance table cs m (Victim v))) o))
  none_by n m rest counts none None is = none
  none_by n m rest counts none (Some v) is =
      rest (advance table cs m (Victim v)) (advance-counts table plans good m (Victim v) counts (victim_may m v is)) (victim_none m v counts is none)

  -- so all victims of a request do
  pub victims_none : (n : ℕ) (m : Moment) → CountsStand table plans good m → NoneExhausted cs m → NoneExhausted cs (advance_all table cs m (victims n table cs m))
  victims_none zero m counts none = none
  victims_none (suc n) m counts none = none_by n m (victims_none n) counts none (victim_of table cs m) refl

listed_active : (h : List Event) (i : ℕ) (es : List Entry) → Each (λ e. is_active h e.process ≡ true) es → is_in i (map (λ e. e.process) es) ≡ true → is_active h i ≡ true
listed_active h i [] each listed = absurd (false≢true listed)
listed_active h i (e ∷ es) each listed =
    ⊎_elim (λ here. ap (is_active h) (eqb-true i e.process here) ∙ each.0) (λ later. listed_active h i es each.1 later) (or_cases (eqb i e.process) (is_in i (map (λ e. e.process) es)) listed)

module _ (courses : List Course) (m : Moment) where
  -- whoever has the last pending entry is active
  undo_next-active : (i : ℕ) → undo_next courses m ≡ Some i → is_active m.events i ≡ true
  undo_next-active i is =
      let pending = filter (is_pending courses m) (net m.events) in
      listed_active m.events i pending
      (Each-weaker (λ e. is_pending courses m e ≡ true) (λ e. is_active m.events e.process ≡ true)
      (λ e at. (and_parts (is_active m.events e.process) (list_any (same_step e) (pending_of courses m e.process)) at).0) pending (all_pass (is_pending courses m) (net m.events)))
      (last_listed (map (λ e. e.process) pending) i is)

  -- where some process is active, it is the turn of one that is
  some_turn : active m.events ≢ [] → (i : ℕ) × (next_in_restart courses m ≡ Some i) × (is_active m.events i ≡ true)
  some_turn some = by_undo (undo_next courses m) refl
    where
      by_first : (xs : List ℕ) → xs ≢ [] → (i : ℕ) × (first_of xs ≡ Some i) × (is_in i xs ≡ true)
      by_first [] none = absurd (none refl)
      by_first (x ∷ xs) none = (x, refl, or_left (eqb x x) (is_in x xs) (eq-eqb x x refl))

      by_undo : (o : Option ℕ) → undo_next courses m ≡ o → (i : ℕ) × (next_in_restart courses m ≡ Some i) × (is_active m.events i ≡ true)
      by_undo (Some i) is = (i, ap (λ o. option_or o (first_of (active m.events))) is, undo_next-active i is)
      by_undo None is =
          let first = by_first (active m.events) some in
          (first.0, ap (λ o. option_or o (first_of (active m.events))) is ∙ first.1, sym (is_active-is_in m.events first.0) ∙ first.2)

not_blocked : (ex : Bool) (o : Option Blocked) → o ≡ None → (not ex && is_some o) ≡ true → ⊥
not_blocked ex o none is = false≢true (sym (ap is_some none) ∙ (and_parts (not ex) (is_some o) is).1)

-- Where no active process is exhausted, nobody is stuck: if all have begun, whoever comes next in a restart is free.
module _ (table : ConflictRelation) (courses : List Course) (m : Moment) (none : NoneExhausted courses m)
    (turn_is_free : AllHaveBegun m → (i : ℕ) → next_in_restart courses m ≡ Some i → block_of table courses m i ≡ None) where
  -- as a stuck process leaves each one
  abbrev CannotGo : ℕ → Type 0
  CannotGo i = IsTrue (is_exhausted courses m i) ⊎ (IsTrue (has_begun m i) × IsTrue (is_blocked table courses m i))

  begun_unless_exhausted : (i : ℕ) → is_active m.events i ≡ true → CannotGo i → has_begun m i ≡ true
  begun_unless_exhausted i active' (inl ex) = absurd (false≢true (sym (none i active') ∙ ex))
  begun_unless_exhausted i active' (inr began) = began.0

  free_goes : (i : ℕ) → is_active m.events i ≡ true → block_of table courses m i ≡ None → CannotGo i → ⊥
  free_goes i active' free (inl ex) = false≢true (sym (none i active') ∙ ex)
  free_goes i active' free (inr began) = not_blocked (is_exhausted courses m i) (block_of table courses m i) free began.1

  -- nobody is said to be stuck without being exhausted
  pub nobody_stuck : (k : ℕ) → SaysStuck table courses m k → ⊥
  nobody_stuck k is =
      let turn = some_turn courses m is.some_active in
      let all : AllHaveBegun m = λ i active'. begun_unless_exhausted i active' (is.nobody_goes i active') in
      free_goes turn.0 turn.2 (turn_is_free all turn.0 turn.1) (is.nobody_goes turn.0 turn.2)

-- where some number passes, the least that does is there
least_passes : (p : ℕ → Bool) (xs : List ℕ) (i : ℕ) → (((k : ℕ) → is_in k xs ≡ true → p k ≡ false) → ⊥) → i ≡ unwrap_or (least (filter p xs)) 0 → least (filter p xs) ≡ Some i
least_passes p xs i some is = by_list (filter p xs) refl
  where
    fails : (k : ℕ) (t : Bool) → p k ≡ t → is_in k xs ≡ true → filter p xs ≡ [] → p k ≡ false
    fails k false at listed none = at
    fails k true at listed none = absurd (false≢true (ap (is_in k) (sym none) ∙ (is_in-filter p k xs ∙ and_from (is_in k xs) (p k) listed at)))

    by_list : (ks : List ℕ) → filter p xs ≡ ks → least (filter p xs) ≡ Some i
    by_list [] none = absurd (some (λ k listed. fails k (p k) refl listed none))
    by_list (k ∷ ks) found =
        let first = least_some k ks in
        ap least found ∙ (first.1 ∙ ap Some (sym (is ∙ (ap (λ (ys : List ℕ). unwrap_or (least ys) 0) found ∙ ap (λ o. unwrap_or o 0) first.1))))

-- so whoever is said to be stuck is the least exhausted process
pub stuck_exhausted : (table : ConflictRelation) (courses : List Course) (m : Moment) → (AllHaveBegun m → (i : ℕ) → next_in_restart courses m ≡ Some i → block_of table courses m i ≡ None)
    → (i : ℕ) → SaysStuck table courses m i → IsStuck table courses m i
stuck_exhausted table courses m turn_is_free i says = record {
  some_active = says.some_active;
  nothing_runs = says.nothing_runs;
  nobody_goes = says.nobody_goes;
  is_least = least_passes (is_exhausted courses m) (active m.events) i
      (λ none. nobody_stuck table courses m (λ k goes. none k (is_active-is_in m.events k ∙ goes)) turn_is_free i says) says.least;
}

-- what a request answers, it says of the moment after its victims
pub says_stuck : (table : ConflictRelation) (courses : List Course) (m : Moment) (served i : ℕ) → (answer_next table courses m served).reply ≡ next_is (stuck i)
    → SaysStuck table courses (advance_all table courses m (all_victims table courses m)) i
says_stuck table courses m served i is = stuck-only table courses (advance_all table courses m (all_victims table courses m)) (victims_run_dry table courses m).0 served i (inner is)
  where
    inner : {a b : Next} → next_is a ≡ next_is b → a ≡ b
    inner {a} {b} is = cc

-- A request leads to a session: its moment after the victims that it makes.
module _ (table : ConflictRelation) (plans : List Plan) (s : Machine) (session : IsSession table plans s) where
  abbrev requested : Machine
  requested = keeping s (all_victims table s.courses (now table s))

  abbrev at_request : Moment
  at_request = advance_all table s.courses (now table s) (all_victims table s.courses (now table s))

  requested_session : IsSession table plans requested
  requested_session =
      session-longer table plans s (all_victims table s.courses (now table s)) s.served session
      (victims_start table s.courses (length (active (now table s).events)) (now table s))
      (goes_on-append table s.courses (opening_moment s.opening) s.kept (all_victims table s.courses (now table s))
      ∙ and_from (goes_on_from table s.courses (opening_moment s.opening) s.kept) _ session.run (victims-kept table s.courses (length (active (now table s).events)) (now table s)))

  requested_now : now table requested ≡ at_request
  requested_now = advance_all-append table s.courses (opening_moment s.opening) s.kept (all_victims table s.courses (now table s))

  -- so the least exhausted process is the one that is named
  is_stuck : (i : ℕ) → SaysStuck table s.courses at_request i → IsStuck table s.courses at_request i
  is_stuck i says =
      subst (λ o. IsStuck table s.courses o i) requested_now
      (stuck_exhausted table s.courses (now table requested) (restart_is_free table plans requested requested_session) i
      (subst (λ o. SaysStuck table s.courses o i) (sym requested_now) says))

pub stuck_is_exact : StuckIsExact
stuck_is_exact table plans s session i = (
  λ is. is_stuck table plans s session i (says_stuck table s.courses (now table s) s.served i is),
  λ is. ap next_is (stuck-if table s.courses (at_request table plans s session) s.served i is),
)

pub progress_law : ProgressLaw
progress_law table plans s session none k answered' =
    let m = now table s in
    let m' = at_request table plans s session in
    let left : NoneExhausted s.courses m' =
    subst (λ xs. NoneExhausted xs (advance_all table xs m (all_victims table xs m))) (sym session.courses)
    (victims_none table plans session.good (length (active m.events)) m (session-counts table plans s session) (subst (λ xs. NoneExhausted xs m) session.courses none)) in
    nobody_stuck table s.courses m' left (subst (λ o. AllHaveBegun o → (i : ℕ) → next_in_restart s.courses o ≡ Some i → block_of table s.courses o i ≡ None) (requested_now table plans s session)
    (restart_is_free table plans (requested table plans s session) (requested_session table plans s session))) k (says_stuck table s.courses m s.served k answered')
