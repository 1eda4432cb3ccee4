-- Processes that all fit within the limits start, one after another.
use Rattle.std.proofs.Common.{◌≡◌, ◌≤◌, ◌<◌, ◌∙◌, ℕ, ◌+◌, Bool, true, false, eqb, ltb, leb, ltb-true, leb-true, slice_index_or, List, [], ◌∷◌, ◌++◌, length, Some, None, if◌then◌else◌, refl, ap, sym, subst, arith, length-append}
use Rattle.std.specs.Bool.{IsTrue}
use Rattle.std.specs.List.{sum_by}
use Rattle.std.proofs.lemmas.Bool.{eq-eqb, ltb-false}
use Rattle.std.proofs.lemmas.List.{map-append, length-map}
use Rattle.std.proofs.lemmas.List.Sums.{sum_by-cons}
use Rattle.std.proofs.Math.Seq.{take-append_seam}
use Rattle.process_tree.specs.declared.plan.Plan.{Plan}
use Rattle.schedule_model.specs.declared.event.Event.{Event}
use Rattle.schedule_model.specs.declared.event.Event.TheVariants.{Start as Started}
use Rattle.schedule_model.specs.declared.history.History.{History}
use Rattle.schedule_model.specs.Course.{Course, course, course_of, courses_of, no_course}
use Rattle.schedule_model.specs.Conflict.{no_conflict}
use Rattle.schedule_model.specs.Histories.{active, is_in, starts}
use Rattle.schedule_model.specs.Laws.{IsGoodPlan}
use Rattle.schedule_model.specs.Legal.{is_legal}
use Rattle.schedule_model.specs.Limits.{entries, most_active, most_entries, most_processes, need}
use Rattle.schedule_model.proofs.Appends.{starts-append}
use Rattle.schedule_model.proofs.Courses.{SameCourse}
use Rattle.schedule_model.proofs.Prefixes.{course-take, is_legal-courses, legal-numbered}
use Rattle.schedule_model.proofs.WithinLimits.{active-start_new, entries-start}
use Rattle.machine_model.specs.Runs.{no_room, start_refusal, too_many_active, too_many_started}
use Rattle.machine_model.specs.Moment.{Moment}
use Rattle.machine_model.proofs.CoursesRuns.{entries-courses}
use Rattle.machine_model.proofs.RunsWithin.{session-within}
use Rattle.process_core.specs.Answers.{after_start}
use Rattle.process_core.specs.Cores.{CoreState, IsCore, courses_in, history_of, machine_of, moment_of, relation}
use Rattle.engine_steps.specs.Beginning.{history_with}
use Rattle.engine_steps.specs.Engines.{full_history}
use Rattle.process_engine.specs.Fitting.{active_with, entries_with, first_passed, limit_passed, need_of, need_of_good, processes_with}
use Rattle.process_engine.specs.declared.fitting.StartLimit.TheVariants.{Processes, Active, Entries}
use Rattle.engine_steps.proofs.StartedHistory.{history_after}

-- where no limit is passed, each number is within its own
module _ (a b c : ℕ) where
  by_entries : (t : Bool) → ltb most_entries c ≡ t → (if t then Some (Entries c) else None) ≡ None → c ≤ most_entries
  by_entries true at is = absurd (cc)
  by_entries false at is = ltb-false most_entries c at

  by_active : (t : Bool) → ltb most_active b ≡ t → (if t then Some (Active b) else (if ltb most_entries c then Some (Entries c) else None)) ≡ None → (b ≤ most_active) × (c ≤ most_entries)
  by_active true at is = absurd (cc)
  by_active false at is = (ltb-false most_active b at, by_entries (ltb most_entries c) refl is)

  by_processes : (t : Bool) → ltb most_processes a ≡ t
      → (if t then Some (Processes a) else (if ltb most_active b then Some (Active b) else (if ltb most_entries c then Some (Entries c) else None))) ≡ None
      → (a ≤ most_processes) × (b ≤ most_active) × (c ≤ most_entries)
  by_processes true at is = absurd (cc)
  by_processes false at is = let rest = by_active (ltb most_active b) refl is in (ltb-false most_processes a at, rest.0, rest.1)

  pub none_passed : first_passed a b c ≡ None → (a ≤ most_processes) × (b ≤ most_active) × (c ≤ most_entries)
  none_passed is = by_processes (ltb most_processes a) refl is

-- a start that leaves room isn't refused
module _ (courses : List Course) (m : Moment) (c : Course) (few : length (active m.events) < most_active) (fewer : length (starts m.events) < most_processes)
    (room : entries courses m.events + need c ≤ most_entries) where
  for_room : (t : Bool) → ltb most_entries (entries courses m.events + need c) ≡ t → no_room (entries courses m.events + need c) t ≡ None
  for_room true at = absurd (let low = ltb-true most_entries (entries courses m.events + need c) at in omega arith)
  for_room false at = refl

  for_started : (t : Bool) → leb most_processes (length (starts m.events)) ≡ t → too_many_started courses m c t ≡ None
  for_started true at = absurd (let low = leb-true most_processes (length (starts m.events)) at in omega arith)
  for_started false at = for_room (ltb most_entries (entries courses m.events + need c)) refl

  for_active : (t : Bool) → leb most_active (length (active m.events)) ≡ t → too_many_active courses m c t ≡ None
  for_active true at = absurd (let low = leb-true most_active (length (active m.events)) at in omega arith)
  for_active false at = for_started (leb most_processes (length (starts m.events))) refl

  pub not_refused : start_refusal courses m c ≡ None
  not_refused = for_active (leb most_active (length (active m.events))) refl

at_seam : (cs : List Course) (c d : Course) → slice_index_or (cs ++ c ∷ []) (length cs) d ≡ c
at_seam [] c d = refl
at_seam (x ∷ cs) c d = at_seam cs c d

module _ (core : CoreState) (is : IsCore core) (p : Plan) (good : IsGoodPlan p) (ps : List Plan) (fits : limit_passed core (p ∷ ps) ≡ None) where
  within : (processes_with core (p ∷ ps) ≤ most_processes) × (active_with core (p ∷ ps) ≤ most_active) × (entries_with core (p ∷ ps) ≤ most_entries)
  within = none_passed (processes_with core (p ∷ ps)) (active_with core (p ∷ ps)) (entries_with core (p ∷ ps)) fits

  sum : sum_by need_of (p ∷ ps) ≡ need (course_of p) + sum_by need_of ps
  sum = sum_by-cons need_of p ps ∙ ap (λ n. n + sum_by need_of ps) (sym (need_of_good p good))

  -- the first of them isn't refused,
  pub first_starts : start_refusal (courses_in core) (moment_of core) (course_of p) ≡ None
  first_starts =
      let one = within.0 in
      let two = within.1 in
      let three = within.2 in
      let four = sum in
      not_refused (courses_in core) (moment_of core) (course_of p) (omega arith) (omega arith) (omega arith)

  abbrev h : List Event
  h = history_of core

  abbrev number : ℕ
  number = length core.plans + 1

  abbrev longer : List Course
  longer = courses_of (core.plans ++ p ∷ [])

  longer_is : longer ≡ courses_in core ++ course_of p ∷ []
  longer_is = map-append course_of core.plans (p ∷ [])

  legal : IsTrue (is_legal no_conflict (courses_in core) h)
  legal = (session-within (relation core) core.plans (machine_of core) is.session).own.legal

  count : length (courses_in core) ≡ length (starts h)
  count = length-map core.plans course_of ∙ is.session.one_each

  -- those that started have the course that they had
  same : (i : ℕ) → is_in i (starts h) ≡ true → SameCourse (courses_in core) longer i
  same i started =
      let bounds = legal-numbered no_conflict (courses_in core) h legal i started in
      let low = bounds.0 in
      let high = bounds.1 in
      let all = count in
      subst (λ ds. SameCourse (courses_in core) ds i) (sym longer_is)
      (ap (λ xs. course xs i) (sym (take-append_seam (courses_in core) (course_of p ∷ []))) ∙ course-take (courses_in core ++ course_of p ∷ []) (length (courses_in core)) i low (omega arith))

  its_course : course longer number ≡ course_of p
  its_course =
      ap (λ ds. course ds number) longer_is
      ∙ (ap (λ k. slice_index_or (courses_in core ++ course_of p ∷ []) k no_course) (let all = length-map core.plans course_of in omega arith) ∙ at_seam (courses_in core) (course_of p) no_course)

  legal_longer : IsTrue (is_legal no_conflict longer h)
  legal_longer = sym (is_legal-courses (courses_in core) longer no_conflict h same) ∙ legal

  next : IsTrue (eqb number (length (starts h) + 1))
  next = eq-eqb number (length (starts h) + 1) (ap (λ n. n + 1) is.session.one_each)

  after : full_history (after_start core p) ≡ history_with core p
  after = history_after core is p first_starts

  processes : processes_with (after_start core p) ps ≡ processes_with core (p ∷ ps)
  processes =
      let one = ap (λ (k : History). length (starts k.events)) after in
      let two = ap length (starts-append h (Started number ∷ [])) in
      let three = length-append (starts h) (number ∷ []) in
      omega arith

  goes : active_with (after_start core p) ps ≡ active_with core (p ∷ ps)
  goes =
      let one = ap (λ (k : History). length (active k.events)) after in
      let two = ap length (active-start_new longer h number legal_longer next) in
      let three = length-append (active h) (number ∷ []) in
      omega arith

  room : entries_with (after_start core p) ps ≡ entries_with core (p ∷ ps)
  room =
      let one = ap (λ (k : History). entries (courses_of k.plans) k.events) after in
      let two = entries-start longer h number legal_longer next in
      let three = ap need its_course in
      let four = entries-courses (courses_in core) longer h same in
      let five = sum in
      omega arith

  -- and once it started the others fit
  pub others_fit : limit_passed (after_start core p) ps ≡ None
  others_fit =
      ap (λ n. first_passed n (active_with (after_start core p) ps) (entries_with (after_start core p) ps)) processes
      ∙ (ap (λ n. first_passed (processes_with core (p ∷ ps)) n (entries_with (after_start core p) ps)) goes ∙ (ap (first_passed (processes_with core (p ∷ ps)) (active_with core (p ∷ ps))) room ∙ fits))
