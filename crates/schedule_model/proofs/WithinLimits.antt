-- Limits: beginnings and completions keep them, and nothing but a start adds to what is counted.
use Rattle.std.proofs.Common.{◌≡◌, ⊎_elim, ℕ, ◌+◌, ◌-◌, ◌≤◌, Bool, true, false, not, cond, eqb, leb, ◌&&◌, List, [], ◌∷◌, ◌++◌, length, map, filter, reverse, sym, refl, ap, ◌∙◌, subst, arith, append-nil, append_assoc}
use Rattle.std.specs.Bool.{IsTrue}
use Rattle.std.specs.List.{flat_map, sum_by}
use Rattle.std.proofs.lemmas.Bool.{and_parts, and_from, eqb-true, eq-eqb, leb-true, le-leb, or_cases, or_left, or_right, ne_eqb, false≢true}
use Rattle.std.proofs.lemmas.List.Sums.{sum_by-cons, sum_by-append}
use Rattle.std.proofs.lemmas.List.{length-append}
use Rattle.process_tree.specs.declared.entry.Entry.{Entry}
use Rattle.process_tree.specs.declared.plan.Plan.{Plan}
use Rattle.schedule_model.specs.declared.event.Event.{Event}
use Rattle.schedule_model.specs.declared.event.Event.TheVariants.{Start, Act, End}
use Rattle.schedule_model.specs.Course.{Course, course, courses_of}
use Rattle.schedule_model.specs.Conflict.{ConflictRelation, no_conflict}
use Rattle.schedule_model.proofs.Legal.{is_legal-prefix}
use Rattle.schedule_model.proofs.Prefixes.{SameOfStarted, courses_in, legal-numbered}
use Rattle.schedule_model.proofs.Members.{filter-none}
use Rattle.schedule_model.proofs.Started.{acts-started, ends-started}
use Rattle.schedule_model.specs.EachEvent.{each_passes}
use Rattle.schedule_model.specs.Histories.{acts, starts, ends, active, is_active, is_in, of_process, undoing}
use Rattle.schedule_model.specs.Recovery.{owed}
use Rattle.schedule_model.specs.Completion.{all_backward_entries, closing, completion, completed}
use Rattle.schedule_model.specs.OwnOrder.{keeps_order, is_in_own_order}
use Rattle.schedule_model.specs.Limits.{Limits, need, starts_within, keeps_limits, stands_within, still_needed, entries}
use Rattle.schedule_model.specs.Legal.{may_come, is_legal}
use Rattle.schedule_model.specs.Laws.{AreGood, BeginningsKeepLimits, LimitsOfBeginnings, plans_in, CompletionKeepsLimits, CompletedStandsWithin, LimitsHold}
use Rattle.schedule_model.proofs.Induction.{each_passes-append, each_passes-prefix, each_passes-push, passes-push, by_legal}
use Rattle.schedule_model.proofs.Appends.{acts-append, starts-append, ends-append, is_in-append}
use Rattle.schedule_model.proofs.Active.{is_active-is_in}
use Rattle.schedule_model.proofs.Counts.{length_filter-most}
use Rattle.schedule_model.proofs.Acting.{act_active, end_active}
use Rattle.schedule_model.proofs.Snoc.{active-do, active-start, active-end}
use Rattle.schedule_model.proofs.NoConflict.{legal-from_own_order, own_order-legal}
use Rattle.schedule_model.proofs.CompletionLaws.{own_order-completion}
use Rattle.schedule_model.proofs.FewActs.{acts_own, acts_other, few_acts}

pub beginnings-keep_limits : BeginningsKeepLimits
beginnings-keep_limits l courses g k keeps = each_passes-prefix (starts_within l courses) g k keeps

-- What is counted asks the courses of those that started alone.

sum_same : (f g : ℕ → ℕ) (xs : List ℕ) → ((k : ℕ) → IsTrue (is_in k xs) → f k ≡ g k) → sum_by f xs ≡ sum_by g xs
sum_same f g [] same = refl
sum_same f g (x ∷ xs) same =
    let here = same x (or_left (eqb x x) (is_in x xs) (eq-eqb x x refl)) in
    let rest = sum_same f g xs (λ k is. same k (or_right (eqb k x) (is_in k xs) is)) in
    let one = sum_by-cons f x xs in
    let two = sum_by-cons g x xs in
    omega arith

module _ (cs ds : List Course) (table : ConflictRelation) (l : Limits) where
  stands-courses : (h : List Event) → SameOfStarted cs ds table h → stands_within l cs h ≡ stands_within l ds h
  stands-courses h same =
      ap (λ n. leb (length (active h)) l.active && leb (length (starts h)) l.processes && leb (length (acts h) + length (ends h) + n) l.entries)
      (sum_same (still_needed cs h) (still_needed ds h) (active h)
      (λ k is. ap (λ c. need c - length (of_process k (acts h)))
      (same k (and_parts (is_in k (starts h)) (not (is_in k (ends h))) (sym (is_active-is_in h k) ∙ is)).0)))

  starts-courses : (h : List Event) (e : Event) → SameOfStarted cs ds table (h ++ e ∷ []) → starts_within l cs h e ≡ starts_within l ds h e
  starts-courses h (Start i) same = stands-courses (h ++ Start i ∷ []) same
  starts-courses h (Act e) same = refl
  starts-courses h (End i) same = refl

  limits-courses : (before h : List Event) → SameOfStarted cs ds table (before ++ h) → each_passes (starts_within l cs) before h ≡ each_passes (starts_within l ds) before h
  limits-courses before [] same = refl
  limits-courses before (e ∷ h) same =
      let same' = subst (SameOfStarted cs ds table) (sym (append_assoc before (e ∷ []) h)) same in
      ap (λ b. b && each_passes (starts_within l cs) (before ++ e ∷ []) h)
      (starts-courses before e (λ i is. same' i (ap (is_in i) (starts-append (before ++ e ∷ []) h) ∙ (is_in-append i (starts (before ++ e ∷ [])) (starts h) ∙ or_left (is_in i (starts (before ++ e ∷ []))) (is_in i (starts h)) is))))
      ∙ ap (λ b. starts_within l ds before e && b) (limits-courses (before ++ e ∷ []) h same')

pub limits-of_beginnings : LimitsOfBeginnings
limits-of_beginnings l table plans g k good keeps =
    let legal = is_legal-prefix table (courses_of plans) g k good.legal in
    sym (limits-courses (courses_of plans) (courses_of (plans_in plans g)) table l [] g (courses_in table plans g legal))
    ∙ each_passes-prefix (starts_within l (courses_of plans)) g k keeps

-- Completion has no start, so nothing of it is judged.

starts_of_acts : (es : List Entry) → starts (map Act es) ≡ []
starts_of_acts [] = refl
starts_of_acts (e ∷ es) = starts_of_acts es

starts_of_undos : (es : List Entry) → starts (map (λ e. Act (undoing e)) es) ≡ []
starts_of_undos [] = refl
starts_of_undos (e ∷ es) = starts_of_undos es

starts_of_closings : (courses : List Course) (h : List Event) (is : List ℕ) → starts (flat_map (closing courses h) is) ≡ []
starts_of_closings courses h [] = refl
starts_of_closings courses h (i ∷ is) =
    starts-append (closing courses h i) (flat_map (closing courses h) is)
    ∙ (ap (λ js. js ++ starts (flat_map (closing courses h) is)) (starts-append (map Act (owed courses h i)) (End i ∷ []) ∙ ap (λ js. js ++ []) (starts_of_acts (owed courses h i)))
    ∙ starts_of_closings courses h is)

-- nobody starts in a completion
pub starts-completion : (courses : List Course) (h : List Event) → starts (completion courses h) ≡ []
starts-completion courses h =
    starts-append (map (λ e. Act (undoing e)) (reverse (all_backward_entries courses h))) (flat_map (closing courses h) (active h))
    ∙ (ap (λ js. js ++ starts (flat_map (closing courses h) (active h))) (starts_of_undos (reverse (all_backward_entries courses h)))
    ∙ starts_of_closings courses h (active h))

nobody_starts : (i : ℕ) (is : List ℕ) → i ∷ is ≡ [] → ⊥
nobody_starts i is e = let l = ap length e in omega arith

no_start : (l : Limits) (courses : List Course) (before k : List Event) → starts k ≡ [] → IsTrue (each_passes (starts_within l courses) before k)
no_start l courses before [] none = refl
no_start l courses before (Start i ∷ k) none = absurd (nobody_starts i (starts k) none)
no_start l courses before (Act e ∷ k) none = no_start l courses (before ++ Act e ∷ []) k none
no_start l courses before (End i ∷ k) none = no_start l courses (before ++ End i ∷ []) k none

pub completion-keeps_limits : CompletionKeepsLimits
completion-keeps_limits l courses h keeps =
    each_passes-append (starts_within l courses) [] h (completion courses h)
    ∙ and_from (keeps_limits l courses h) (each_passes (starts_within l courses) h (completion courses h)) keeps
    (no_start l courses h (completion courses h) (starts-completion courses h))

-- Sums over the active processes.

module _ (f g : ℕ → ℕ) where
  sum_less : (xs : List ℕ) → ((k : ℕ) → g k ≤ f k) → sum_by g xs ≤ sum_by f xs
  sum_less [] less = omega arith
  sum_less (x ∷ xs) less =
      let here = less x in
      let rest = sum_less xs less in
      let one = sum_by-cons g x xs in
      let two = sum_by-cons f x xs in
      omega arith

  -- where one of them has less, the sum is less
  sum_drops : (i : ℕ) (xs : List ℕ) → ((k : ℕ) → g k ≤ f k) → g i + 1 ≤ f i → (is_in i xs ≡ true) → sum_by g xs + 1 ≤ sum_by f xs
  sum_drops i [] less at is = absurd (false≢true is)
  sum_drops i (x ∷ xs) less at is =
      let one = sum_by-cons g x xs in
      let two = sum_by-cons f x xs in
      ⊎_elim
      (λ here. let same = eqb-true i x here in let rest = sum_less xs less in let at_x : g x + 1 ≤ f x = subst (λ k. g k + 1 ≤ f k) same at in omega arith)
      (λ later. let here = less x in let rest = sum_drops i xs less at later in omega arith)
      (or_cases (eqb i x) (is_in i xs) is)

sum_kept : (f : ℕ → ℕ) (i x : ℕ) (xs : List ℕ) (t : Bool) → sum_by f (cond t (x ∷ filter (λ k. not (eqb k i)) xs) (filter (λ k. not (eqb k i)) xs)) ≤ f x + sum_by f (filter (λ k. not (eqb k i)) xs)
sum_kept f i x xs true = let one = sum_by-cons f x (filter (λ k. not (eqb k i)) xs) in omega arith
sum_kept f i x xs false = omega arith

sum_filtered : (f : ℕ → ℕ) (i : ℕ) (xs : List ℕ) → sum_by f (filter (λ k. not (eqb k i)) xs) ≤ sum_by f xs
sum_filtered f i [] = omega arith
sum_filtered f i (x ∷ xs) =
    let one = sum_kept f i x xs (not (eqb x i)) in
    let two = sum_by-cons f x xs in
    let rest = sum_filtered f i xs in
    omega arith

-- without one of them
sum_without : (f : ℕ → ℕ) (i : ℕ) (xs : List ℕ) → is_in i xs ≡ true → sum_by f (filter (λ k. not (eqb k i)) xs) + f i ≤ sum_by f xs
sum_without f i [] is = absurd (false≢true is)
sum_without f i (x ∷ xs) is =
    let two = sum_by-cons f x xs in
    ⊎_elim
    (λ here.
    let same = eqb-true i x here in
    let gone : sum_by f (filter (λ k. not (eqb k i)) (x ∷ xs)) ≡ sum_by f (filter (λ k. not (eqb k i)) xs) =
    ap (λ t. sum_by f (cond (not t) (x ∷ filter (λ k. not (eqb k i)) xs) (filter (λ k. not (eqb k i)) xs))) (eq-eqb x i (sym same)) in
    let rest = sum_filtered f i xs in
    let at = ap f same in
    omega arith)
    (λ later. let one = sum_kept f i x xs (not (eqb x i)) in let rest = sum_without f i xs later in omega arith)
    (or_cases (eqb i x) (is_in i xs) is)

fewer_active : (i : ℕ) (xs : List ℕ) → length (filter (λ k. not (eqb k i)) xs) ≤ length xs
fewer_active i xs = length_filter-most (λ k. not (eqb k i)) xs

-- Nothing but a start adds to what is counted.

module _ (l : Limits) (plans : List Plan) (good : AreGood plans) where
  abbrev cs : List Course
  cs = courses_of plans

  still_less : (h : List Event) (e : Entry) → IsTrue (is_in_own_order cs (h ++ Act e ∷ [])) → (k : ℕ) → (own : Bool) → eqb e.process k ≡ own
      → still_needed cs (h ++ Act e ∷ []) k ≤ still_needed cs h k
  still_less h e own k true is = let more = acts_own cs k h e is in omega arith
  still_less h e own k false is = let same = ap length (acts_other cs k h e is) in omega arith

  still_drops : (h : List Event) (e : Entry) → IsTrue (is_in_own_order cs (h ++ Act e ∷ [])) → still_needed cs (h ++ Act e ∷ []) e.process + 1 ≤ still_needed cs h e.process
  still_drops h e own =
      let more = acts_own cs e.process h e (eq-eqb e.process e.process refl) in
      let few = few_acts plans good e.process (h ++ Act e ∷ []) own in
      omega arith

  entries_act : (h : List Event) (e : Entry) → IsTrue (is_in_own_order cs (h ++ Act e ∷ [])) → IsTrue (is_active h e.process) → entries cs (h ++ Act e ∷ []) ≤ entries cs h
  entries_act h e own goes =
      let one = ap length (acts-append h (Act e ∷ [])) in
      let long = length-append (acts h) (e ∷ []) in
      let two = ap length (ends-append h (Act e ∷ []) ∙ append-nil (ends h)) in
      let three = ap (sum_by (still_needed cs (h ++ Act e ∷ []))) (active-do h e) in
      let drops = sum_drops (still_needed cs h) (still_needed cs (h ++ Act e ∷ [])) e.process (active h) (λ k. still_less h e own k (eqb e.process k) refl) (still_drops h e own)
      (is_active-is_in h e.process ∙ goes) in
      omega arith

  entries_end : (h : List Event) (i : ℕ) → IsTrue (is_in_own_order cs h) → IsTrue (is_active h i) → entries cs (h ++ End i ∷ []) ≤ entries cs h
  entries_end h i own goes =
      let one = ap length (acts-append h (End i ∷ []) ∙ append-nil (acts h)) in
      let two = ap length (ends-append h (End i ∷ [])) in
      let long = length-append (ends h) (i ∷ []) in
      let three : sum_by (still_needed cs (h ++ End i ∷ [])) (active (h ++ End i ∷ [])) ≤ sum_by (still_needed cs h) (filter (λ k. not (eqb k i)) (active h)) =
      subst (λ ks. sum_by (still_needed cs (h ++ End i ∷ [])) ks ≤ sum_by (still_needed cs h) (filter (λ k. not (eqb k i)) (active h))) (sym (active-end h i))
      (sum_less (still_needed cs h) (still_needed cs (h ++ End i ∷ [])) (filter (λ k. not (eqb k i)) (active h))
      (λ k. let same = ap (λ es. length (of_process k es)) (acts-append h (End i ∷ []) ∙ append-nil (acts h)) in omega arith)) in
      let without = sum_without (still_needed cs h) i (active h) (is_active-is_in h i ∙ goes) in
      let few = few_acts plans good i h own in
      omega arith

  abbrev pub Stands : List Event → Type 0
  Stands h = (length (active h) ≤ l.active) × (length (starts h) ≤ l.processes) × (entries cs h ≤ l.entries)

  stands_parts : (h : List Event) → IsTrue (stands_within l cs h) → Stands h
  stands_parts h is =
      let last = and_parts (leb (length (active h)) l.active && leb (length (starts h)) l.processes) (leb (entries cs h) l.entries) is in
      let first = and_parts (leb (length (active h)) l.active) (leb (length (starts h)) l.processes) last.0 in
      (leb-true (length (active h)) l.active first.0, leb-true (length (starts h)) l.processes first.1, leb-true (entries cs h) l.entries last.1)

  stands_from : (h : List Event) → Stands h → IsTrue (stands_within l cs h)
  stands_from h is =
      and_from (leb (length (active h)) l.active && leb (length (starts h)) l.processes) (leb (entries cs h) l.entries)
      (and_from (leb (length (active h)) l.active) (leb (length (starts h)) l.processes) (le-leb (length (active h)) l.active is.0) (le-leb (length (starts h)) l.processes is.1))
      (le-leb (entries cs h) l.entries is.2)

  still_stands : (h : List Event) (e : Event) → IsTrue (is_legal no_conflict cs h) → IsTrue (may_come no_conflict cs h e) → IsTrue (starts_within l cs h e)
      → Stands h → IsTrue (stands_within l cs (h ++ e ∷ []))
  still_stands h (Start i) legal may within is = within
  still_stands h (Act e) legal may within is =
      let own = own_order-legal cs no_conflict (h ++ Act e ∷ []) (passes-push (may_come no_conflict cs) h (Act e) legal may) in
      let goes = act_active no_conflict cs h e may in
      let less = entries_act h e own goes in
      let one = ap length (active-do h e) in
      let two = ap length (starts-append h (Act e ∷ []) ∙ append-nil (starts h)) in
      let bounds = is in
      stands_from (h ++ Act e ∷ []) ((let b = is.0 in omega arith), (let b = is.1 in omega arith), (let b = is.2 in omega arith))
  still_stands h (End i) legal may within is =
      let own = own_order-legal cs no_conflict h legal in
      let goes = end_active no_conflict cs h i may in
      let less = entries_end h i own goes in
      let one = ap length (active-end h i) in
      let fewer = fewer_active i (active h) in
      let two = ap length (starts-append h (End i ∷ []) ∙ append-nil (starts h)) in
      stands_from (h ++ End i ∷ []) ((let b = is.0 in omega arith), (let b = is.1 in omega arith), (let b = is.2 in omega arith))

  abbrev Holds : List Event → Type 0
  Holds h = IsTrue (keeps_limits l cs h) → IsTrue (stands_within l cs h)

  holds_more : (h : List Event) (e : Event) → IsTrue (is_legal no_conflict cs h) → IsTrue (may_come no_conflict cs h e) → Holds h → Holds (h ++ e ∷ [])
  holds_more h e legal may holds keeps =
      let parts = and_parts (keeps_limits l cs h) (starts_within l cs h e) (sym (each_passes-push (starts_within l cs) h e) ∙ keeps) in
      still_stands h e legal may parts.1 (stands_parts h (holds parts.0))

  pub limits-hold_from : (h : List Event) → IsTrue (is_legal no_conflict cs h) → Holds h
  limits-hold_from h legal = by_legal no_conflict cs Holds holds_more (λ keeps. stands_from [] (omega arith, omega arith, omega arith)) h legal

pub limits-hold : LimitsHold
limits-hold l plans h good own keeps = limits-hold_from l plans good h (legal-from_own_order (courses_of plans) h own) keeps

pub completed-stands_within : CompletedStandsWithin
completed-stands_within l plans h good own keeps =
    limits-hold l plans (completed (courses_of plans) h) good (own_order-completion plans h good own).0 (completion-keeps_limits l (courses_of plans) h keeps)

-- What a start makes of what is counted.

module _ (courses : List Course) (h : List Event) (i : ℕ) (legal : IsTrue (is_legal no_conflict courses h)) (next : IsTrue (keeps_order courses h (Start i))) where
  -- it has the next number, which nobody had
  not_started : is_in i (starts h) ≡ false
  not_started = by_started (is_in i (starts h)) refl
    where
      by_started : (t : Bool) → is_in i (starts h) ≡ t → is_in i (starts h) ≡ false
      by_started false is = is
      by_started true is =
          let bounds = legal-numbered no_conflict courses h legal i is in
          let high = bounds.1 in
          let at = eqb-true i (length (starts h) + 1) next in
          absurd (omega arith)

  not_ended : is_in i (ends h) ≡ false
  not_ended = by_ended (is_in i (ends h)) refl
    where
      by_ended : (t : Bool) → is_in i (ends h) ≡ t → is_in i (ends h) ≡ false
      by_ended false is = is
      by_ended true is = absurd (false≢true (sym not_started ∙ ends-started no_conflict courses h legal i is))

  -- nothing of it took effect
  nothing_done : of_process i (acts h) ≡ []
  nothing_done =
      filter-none (λ (e : Entry). eqb e.process i) (acts h)
      (λ e is. ne_eqb e.process i (λ same. false≢true (sym not_started ∙ (ap (λ k. is_in k (starts h)) (sym same) ∙ acts-started no_conflict courses h legal e is))))

  pub active-start_new : active (h ++ Start i ∷ []) ≡ active h ++ i ∷ []
  active-start_new = active-start h i ∙ ap (λ t. active h ++ cond (not t) (i ∷ []) []) not_ended

  -- there are as many entries more as it may need
  pub entries-start : entries courses (h ++ Start i ∷ []) ≡ entries courses h + need (course courses i)
  entries-start =
      let one = ap length (acts-append h (Start i ∷ []) ∙ append-nil (acts h)) in
      let two = ap length (ends-append h (Start i ∷ []) ∙ append-nil (ends h)) in
      let same : (k : ℕ) → still_needed courses (h ++ Start i ∷ []) k ≡ still_needed courses h k =
      λ k. ap (λ es. need (course courses k) - length (of_process k es)) (acts-append h (Start i ∷ []) ∙ append-nil (acts h)) in
      let three : sum_by (still_needed courses (h ++ Start i ∷ [])) (active (h ++ Start i ∷ [])) ≡ sum_by (still_needed courses h) (active h ++ i ∷ []) =
      ap (sum_by (still_needed courses (h ++ Start i ∷ []))) active-start_new ∙ sum_same (still_needed courses (h ++ Start i ∷ [])) (still_needed courses h) (active h ++ i ∷ []) (λ k is. same k) in
      let four = sum_by-append (still_needed courses h) (active h) (i ∷ []) in
      let five = sum_by-cons (still_needed courses h) i [] in
      let none = ap length nothing_done in
      omega arith
