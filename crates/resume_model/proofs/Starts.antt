-- A start makes a longer session, with its plan.
use Rattle.std.proofs.Common.{◌≡◌, ◌⊎◌, inl, inr, ℕ, zero, suc, ◌+◌, ◌≤◌, Bool, true, false, not, eqb, ◌&&◌, ◌||◌, List, [], ◌∷◌, ◌++◌, length, drop, slice_index_or, Option, Some, None, is_none, sym, refl, ap, subst, ◌∙◌, length-append, arith}
use Rattle.std.specs.List.{Contains, list_all, list_any}
use Rattle.std.proofs.lemmas.Bool.{and_from, and_parts, eq-eqb}
use Rattle.std.proofs.lemmas.List.{map-append, length-map}
use Rattle.std.proofs.lemmas.List.Elements.{Contains-append_cases}
use Rattle.std.proofs.Math.Seq.{take-append_seam}
use Rattle.process_tree.specs.declared.entry.Entry.{Entry}
use Rattle.process_tree.specs.declared.plan.Plan.{Plan}
use Rattle.process_tree.specs.Shape.{can_be_refused, kind_of}
use Rattle.schedule_model.specs.Course.{Course, course, course_of, no_course}
use Rattle.schedule_model.specs.Conflict.{ConflictRelation, conflict}
use Rattle.schedule_model.specs.Histories.{active, ends, is_active, is_in, net, net_of, same_step, starts}
use Rattle.schedule_model.specs.Holdings.{behind}
use Rattle.schedule_model.specs.Laws.{IsGoodPlan}
use Rattle.schedule_model.specs.Legal.{is_legal}
use Rattle.schedule_model.specs.Limits.{is_within_limits, limits}
use Rattle.schedule_model.proofs.Active.{is_active-is_in}
use Rattle.schedule_model.proofs.Courses.{SameCourse}
use Rattle.schedule_model.proofs.Members.{all-among, all-from_among, is_in-among}
use Rattle.schedule_model.proofs.Prefixes.{course-take, is_legal-courses, legal-numbered}
use Rattle.machine_model.specs.declared.kept.Kept.TheVariants.{Start}
use Rattle.machine_model.specs.declared.replies.StartWhy.{StartWhy}
use Rattle.machine_model.specs.Moment.{Moment, RefusedStep}
use Rattle.machine_model.specs.Progress.{Progress, staying}
use Rattle.machine_model.specs.State.{is_pending, pending_of, progress}
use Rattle.machine_model.specs.Advance.{advance, advance_all}
use Rattle.machine_model.specs.Runs.{goes_on_from, may_be_kept, start_refusal}
use Rattle.machine_model.specs.Calls.{start_unless}
use Rattle.machine_model.proofs.CoursesRuns.{SameOf, goes-courses, limits-courses, refusal_same, starts-after, starts-most}
use Rattle.machine_model.proofs.MachineCourses.{progress-courses}
use Rattle.machine_model.proofs.Snoc.{advance_all-append, goes_on-append}
use Rattle.resume_model.specs.MomentLaws.{StartsKeepSessions}
use Rattle.resume_model.specs.Openings.{Opening, opened}
use Rattle.resume_model.specs.Resumed.{IsResumed, Resumed, after_answer, now_of}
use Rattle.resume_model.specs.Sound.{is_ahead, is_beginning_of, is_closed, is_closed_behind, is_refusal_of, is_sound}
use Rattle.resume_model.proofs.Openings.{sound-parts}

-- An opening is sound by all courses that agree on who has started.
module _ (cs ds : List Course) (table : ConflictRelation) (o : Opening) (same : SameOf cs ds o.history) where
  abbrev moment : Moment
  moment = opened o

  goes_same : (i : ℕ) → is_active o.history i ≡ true → SameCourse cs ds i
  goes_same i goes = same i (and_parts (is_in i (starts o.history)) (not (is_in i (ends o.history))) goes).0

  pending_same : (i : ℕ) → is_active o.history i ≡ true → pending_of cs moment i ≡ pending_of ds moment i
  pending_same i goes = ap (λ (s : Progress). drop (staying s) (net_of o.history i)) (progress-courses cs ds moment i (goes_same i goes))

  is_pending_same : (e : Entry) → is_pending cs moment e ≡ is_pending ds moment e
  is_pending_same e = by_test (is_active o.history e.process) refl
    where
      by_test : (t : Bool) → is_active o.history e.process ≡ t → is_pending cs moment e ≡ is_pending ds moment e
      by_test true goes = ap (λ es. is_active o.history e.process && list_any (same_step e) es) (pending_same e.process goes)
      by_test false ended = ap (λ t. t && list_any (same_step e) (pending_of cs moment e.process)) ended ∙ sym (ap (λ t. t && list_any (same_step e) (pending_of ds moment e.process)) ended)

  behind_same : (x : Entry) → is_closed_behind table cs moment x ≡ true → is_closed_behind table ds moment x ≡ true
  behind_same x is =
      all-from_among (λ (e : Entry). not (conflict table x e) || is_pending ds moment e) (behind x (net o.history))
      (λ e back. ap (λ t. not (conflict table x e) || t) (sym (is_pending_same e)) ∙ all-among (λ (y : Entry). not (conflict table x y) || is_pending cs moment y) (behind x (net o.history)) is e back)

  closed_same : is_closed table cs moment ≡ true → is_closed table ds moment ≡ true
  closed_same closed =
      all-from_among (λ i. list_all (is_closed_behind table ds moment) (pending_of ds moment i)) (active o.history) (λ i among.
      let goes : is_active o.history i ≡ true = sym (is_active-is_in o.history i) ∙ is_in-among i (active o.history) among in
      let one = all-among (λ k. list_all (is_closed_behind table cs moment) (pending_of cs moment k)) (active o.history) closed i among in
      ap (list_all (is_closed_behind table ds moment)) (sym (pending_same i goes))
      ∙ all-from_among (is_closed_behind table ds moment) (pending_of cs moment i) (λ x pend. behind_same x (all-among (is_closed_behind table cs moment) (pending_of cs moment i) one x pend)))

  refusal_same_by : (r : RefusedStep) → is_refusal_of cs o r ≡ true → is_refusal_of ds o r ≡ true
  refusal_same_by r is =
      let both = and_parts (is_in r.process (starts o.history) && can_be_refused (kind_of (course cs r.process).shape r.step)) (is_ahead (progress cs moment r.process)) is in
      let one = and_parts (is_in r.process (starts o.history)) (can_be_refused (kind_of (course cs r.process).shape r.step)) both.0 in
      let its : SameCourse cs ds r.process = same r.process one.0 in
      and_from (is_in r.process (starts o.history) && can_be_refused (kind_of (course ds r.process).shape r.step)) (is_ahead (progress ds moment r.process))
      (and_from (is_in r.process (starts o.history)) (can_be_refused (kind_of (course ds r.process).shape r.step)) one.0 (sym (ap (λ (c : Course). can_be_refused (kind_of c.shape r.step)) its) ∙ one.1))
      (sym (ap is_ahead (progress-courses cs ds moment r.process its)) ∙ both.1)

  pub sound-courses : is_sound table cs o ≡ true → is_sound table ds o ≡ true
  sound-courses sound =
      let parts = sound-parts table cs o sound in
      let legal = is_legal table ds o.history in
      let within = is_within_limits ds o.history in
      let begun = list_all (is_beginning_of o) o.begun in
      let refused = list_all (is_refusal_of ds o) o.refused in
      and_from (((legal && within) && begun) && refused) (is_closed table ds moment)
      (and_from ((legal && within) && begun) refused
      (and_from (legal && within) begun
      (and_from legal within (sym (is_legal-courses cs ds table o.history same) ∙ parts.legal) (sym (limits-courses cs ds limits [] o.history same) ∙ parts.within)) parts.begun)
      (all-from_among (is_refusal_of ds o) o.refused (λ r among. refusal_same_by r (all-among (is_refusal_of cs o) o.refused parts.refused r among))))
      (closed_same parts.closed)

only_one : {X : Type 0} (x y : X) → Contains (x ∷ []) y → x ≡ y
only_one x y (zero, within, is) = is
only_one x y (suc k, within, is) = absurd (omega arith)

at_seam : (cs : List Course) (c d : Course) → slice_index_or (cs ++ c ∷ []) (length cs) d ≡ c
at_seam [] c d = refl
at_seam (x ∷ cs) c d = at_seam cs c d

module _ (table : ConflictRelation) (plans : List Plan) (s : Resumed) (session : IsResumed table plans s) (p : Plan) (good : IsGoodPlan p) where
  abbrev cs : List Course
  cs = s.courses

  abbrev ds : List Course
  ds = s.courses ++ course_of p ∷ []

  abbrev m : Moment
  m = now_of table s

  abbrev o : Moment
  o = opened s.opening

  abbrev i : ℕ
  i = length (starts (now_of table s).events) + 1

  count : length s.courses ≡ length (starts (now_of table s).events)
  count = ap length session.courses ∙ (length-map plans course_of ∙ session.one_each)

  agree : (k : ℕ) → 1 ≤ k → k ≤ length s.courses → SameCourse cs ds k
  agree k low high = ap (λ xs. course xs k) (sym (take-append_seam s.courses (course_of p ∷ []))) ∙ course-take ds (length s.courses) k low high

  opening_same : SameOf cs ds s.opening.history
  opening_same k is =
      let bounds = legal-numbered table s.courses s.opening.history (sound-parts table s.courses s.opening session.sound).legal k is in
      let low = bounds.0 in
      let high = bounds.1 in
      let few : length (starts s.opening.history) ≤ length (starts (now_of table s).events) = starts-most cs ds table (length s.courses) agree o s.kept in
      let all = count in
      agree k (omega arith) (omega arith)

  goes : (advance_all table ds o s.kept ≡ m) × (goes_on_from table ds o s.kept ≡ true) × SameOf cs ds m.events
  goes = goes-courses cs ds table (length s.courses) agree o s.kept opening_same tt (let all = count in omega arith) session.run

  its_course : course ds i ≡ course_of p
  its_course = ap (λ k. slice_index_or ds k no_course) (let all = count in omega arith) ∙ at_seam s.courses (course_of p) no_course

  may : start_refusal s.courses m (course_of p) ≡ None → may_be_kept table ds m (Start i) ≡ true
  may none = and_from (eqb i (length (starts m.events) + 1)) (is_none (start_refusal ds m (course ds i))) (eq-eqb i (length (starts m.events) + 1) refl)
      (ap is_none (ap (start_refusal ds m) its_course ∙ (sym (refusal_same cs ds table m (course_of p) goes.2) ∙ none)))

  plans_good : (q : Plan) → Contains (plans ++ p ∷ []) q → IsGoodPlan q
  plans_good q is = by_part (Contains-append_cases plans (p ∷ []) q is)
    where
      by_part : Contains plans q ⊎ Contains (p ∷ []) q → IsGoodPlan q
      by_part (inl among) = session.good q among
      by_part (inr this) = subst IsGoodPlan (only_one p q this) good

  started_session : start_refusal s.courses m (course_of p) ≡ None
      → IsResumed table (plans ++ p ∷ []) (record { opening = s.opening; courses = ds; kept = s.kept ++ Start i ∷ []; served = s.served })
  started_session none = record {
    symmetric = session.symmetric;
    good = plans_good;
    courses = ap (λ xs. xs ++ course_of p ∷ []) session.courses ∙ sym (map-append course_of plans (p ∷ []));
    one_each = let a = length-append plans (p ∷ []) in let b = session.one_each in let c = ap length grown in let d = length-append (starts m.events) (i ∷ []) in omega arith;
    sound = sound-courses cs ds table s.opening opening_same session.sound;
    run = goes_on-append table ds o s.kept (Start i ∷ [])
        ∙ and_from (goes_on_from table ds o s.kept) _ goes.1 (ap (λ n. goes_on_from table ds n (Start i ∷ [])) goes.0 ∙ and_from (may_be_kept table ds m (Start i)) true (may none) refl);
  }
    where
      grown : starts (advance_all table ds o (s.kept ++ Start i ∷ [])).events ≡ starts m.events ++ i ∷ []
      grown = ap (λ (n : Moment). starts n.events) (advance_all-append table ds o s.kept (Start i ∷ []) ∙ ap (λ n. advance table ds n (Start i)) goes.0) ∙ starts-after table ds m (Start i)

  by_refusal : (w : Option StartWhy) → start_refusal s.courses m (course_of p) ≡ w
      → let a = start_unless i s.served (course_of p) w in IsResumed table (plans ++ p ∷ []) (after_answer s a) ⊎ (a.kept ≡ [])
  by_refusal None is = inl (started_session is)
  by_refusal (Some why) is = inr refl

pub starts_keep_sessions : StartsKeepSessions
starts_keep_sessions table plans s session p good = by_refusal table plans s session p good (start_refusal s.courses (now_of table s) (course_of p)) refl
