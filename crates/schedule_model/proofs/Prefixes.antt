-- The prefix law: each beginning of a legal history is legal, with the plans of those that started in it.
use Rattle.std.proofs.Common.{◌≡◌, ◌⊎◌, inl, inr, ℕ, ◌+◌, ◌-◌, ◌≤◌, true, false, eqb, ◌&&◌, List, [], ◌∷◌, ◌++◌, length, take, drop, sym, refl, ap, ◌∙◌, subst, arith, append-nil, append_assoc}
use Rattle.std.specs.Bool.{IsTrue}
use Rattle.std.proofs.lemmas.Bool.{or_left, or_cases, and_parts, eqb-true, false≢true}
use Rattle.std.specs.List.{Contains}
use Rattle.std.proofs.lemmas.List.{get_or-take, length-append, length-take, take-map, take-append-drop}
use Rattle.std.proofs.lemmas.List.Elements.{Contains-append_left}
use Rattle.process_tree.specs.declared.plan.Plan.{Plan}
use Rattle.schedule_model.specs.declared.event.Event.{Event}
use Rattle.schedule_model.specs.declared.event.Event.TheVariants.{Start, Act, End}
use Rattle.schedule_model.specs.Course.{Course, course, course_of, courses_of, no_course}
use Rattle.schedule_model.specs.Conflict.{ConflictRelation}
use Rattle.schedule_model.specs.Histories.{is_in, starts}
use Rattle.schedule_model.specs.Legal.{is_clear, may_come, goes_legally, is_legal}
use Rattle.schedule_model.proofs.Induction.{by_legal, first_failing-none, first_failing-all, first_failing-some}
use Rattle.schedule_model.specs.Laws.{PrefixLaw, BeginningsArePlanned, FirstIllegalIsExact, plans_in}
use Rattle.schedule_model.proofs.Appends.{starts-append, is_in-append}
use Rattle.schedule_model.proofs.Legal.{is_legal-prefix}
use Rattle.schedule_model.proofs.Courses.{SameCourse, SameOfActive, may_come-courses}

module _ (cs ds : List Course) (table : ConflictRelation) where
  -- both lists have the same courses of the processes that started
  abbrev pub SameOfStarted : List Event → Type 0
  SameOfStarted h = (i : ℕ) → IsTrue (is_in i (starts h)) → SameCourse cs ds i

  of_active : (g h : List Event) → SameOfStarted (g ++ h) → SameOfActive cs ds g
  of_active g h same i active =
      same i (ap (is_in i) (starts-append g h) ∙ (is_in-append i (starts g) (starts h) ∙ or_left (is_in i (starts g)) (is_in i (starts h)) (and_parts (is_in i (starts g)) _ active).0))

  pub goes_legally-courses : (before h : List Event) → SameOfStarted (before ++ h) → goes_legally table cs before h ≡ goes_legally table ds before h
  goes_legally-courses before [] same = refl
  goes_legally-courses before (e ∷ h) same =
      ap (λ b. b && goes_legally table cs (before ++ e ∷ []) h) (may_come-courses cs ds table before e (of_active before (e ∷ h) same))
      ∙ ap (λ b. may_come table ds before e && b)
      (goes_legally-courses (before ++ e ∷ []) h (subst SameOfStarted (sym (append_assoc before (e ∷ []) h)) same))

  -- a history is legal by the courses of those that started in it
  pub is_legal-courses : (h : List Event) → SameOfStarted h → is_legal table cs h ≡ is_legal table ds h
  is_legal-courses h same = goes_legally-courses [] h same

-- those that started have the numbers from 1 to as many as there are
abbrev pub Numbered : List Event → Type 0
Numbered h = (i : ℕ) → IsTrue (is_in i (starts h)) → (1 ≤ i) × (i ≤ length (starts h))

next_number : (h : List Event) (k i : ℕ) → Numbered h → k ≡ length (starts h) + 1 → (is_in i (starts h) ≡ true) ⊎ (is_in i (k ∷ []) ≡ true)
    → (1 ≤ i) × (i ≤ length (starts h ++ k ∷ []))
next_number h k i numbered next (inl before) =
    let bounds = numbered i before in
    let low = bounds.0 in
    let high = bounds.1 in
    (omega arith, omega (arith, length-append (starts h) (k ∷ [])))
next_number h k i numbered next (inr this) = by_this (or_cases (eqb i k) false this)
  where
    by_this : (eqb i k ≡ true) ⊎ (false ≡ true) → (1 ≤ i) × (i ≤ length (starts h ++ k ∷ []))
    by_this (inl same) = let e = eqb-true i k same in (omega arith, omega (arith, length-append (starts h) (k ∷ [])))
    by_this (inr no') = absurd (false≢true no')

started_same : (h : List Event) (e : Event) → starts (h ++ e ∷ []) ≡ starts h → Numbered h → Numbered (h ++ e ∷ [])
started_same h e same numbered i is = subst (λ (is : List ℕ). (1 ≤ i) × (i ≤ length is)) (sym same) (numbered i (ap (is_in i) (sym same) ∙ is))

module _ (table : ConflictRelation) (courses : List Course) where
  pub numbered_by : (h : List Event) (e : Event) → Numbered h → IsTrue (may_come table courses h e) → Numbered (h ++ e ∷ [])
  numbered_by h (Start k) numbered may i is =
      subst (λ (is : List ℕ). (1 ≤ i) × (i ≤ length is)) (sym (starts-append h (Start k ∷ [])))
      (next_number h k i numbered (eqb-true k (length (starts h) + 1) (and_parts (eqb k (length (starts h) + 1)) (is_clear table courses h (Start k)) may).0)
      (or_cases (is_in i (starts h)) (is_in i (k ∷ [])) (sym (ap (is_in i) (starts-append h (Start k ∷ [])) ∙ is_in-append i (starts h) (k ∷ [])) ∙ is)))
  numbered_by h (Act e) numbered may i is = started_same h (Act e) (starts-append h (Act e ∷ []) ∙ append-nil (starts h)) numbered i is
  numbered_by h (End k) numbered may i is = started_same h (End k) (starts-append h (End k ∷ []) ∙ append-nil (starts h)) numbered i is

  pub legal-numbered : (h : List Event) → IsTrue (is_legal table courses h) → Numbered h
  legal-numbered h legal = by_legal table courses Numbered (λ g e before may numbered. numbered_by g e numbered may) (λ i is. absurd (false≢true is)) h legal

-- the first n courses are those of the first n processes
pub course-take : (courses : List Course) (n i : ℕ) → 1 ≤ i → i ≤ n → course (take n courses) i ≡ course courses i
course-take courses n i low high = get_or-take n courses (i - 1) no_course (omega arith)

-- the plans of those that started in a beginning
plans_count : (plans : List Plan) (g k : List Event) → length plans ≡ length (starts (g ++ k)) → length (plans_in plans g) ≡ length (starts g)
plans_count plans g k each =
    let long = ap length (starts-append g k) in
    let more = length-append (starts g) (starts k) in
    let front = length-take (length (starts g)) plans in
    omega arith

plan_before : (n : ℕ) (plans : List Plan) (p : Plan) → Contains (take n plans) p → Contains plans p
plan_before n plans p is =
    subst (λ ps. Contains ps p) (take-append-drop n plans) (Contains-append_left (take n plans) (drop n plans) p is)

pub planned-prefix : BeginningsArePlanned
planned-prefix operations plans g k planned = record {
  good = λ p is. planned.good p (plan_before (length (starts g)) plans p is);
  one_each = plans_count plans g k planned.one_each;
  known = λ p is. planned.known p (plan_before (length (starts g)) plans p is);
}

-- courses of the first plans are those of all plans, for those that started
pub courses_in : (table : ConflictRelation) (plans : List Plan) (g : List Event) → IsTrue (is_legal table (courses_of plans) g)
    → (i : ℕ) → IsTrue (is_in i (starts g)) → course (courses_of plans) i ≡ course (courses_of (plans_in plans g)) i
courses_in table plans g legal i is =
    let bounds = legal-numbered table (courses_of plans) g legal i is in
    sym (course-take (courses_of plans) (length (starts g)) i bounds.0 bounds.1) ∙ ap (λ cs. course cs i) (take-map course_of (length (starts g)) plans)

pub prefix-law : PrefixLaw
prefix-law table plans g k good =
    let legal = is_legal-prefix table (courses_of plans) g k good.legal in
    record {
      symmetric = good.symmetric;
      good = λ p is. good.good p (plan_before (length (starts g)) plans p is);
      one_each = plans_count plans g k good.one_each;
      legal = sym (is_legal-courses (courses_of plans) (courses_of (plans_in plans g)) table g (courses_in table plans g legal)) ∙ legal;
    }

pub first_illegal-exact : FirstIllegalIsExact
first_illegal-exact table courses h = record {
  none = first_failing-none (may_come table courses) 1 [] h;
  legal = first_failing-all (may_come table courses) 1 [] h;
  first = first_failing-some (may_come table courses) 1 [] h;
}
