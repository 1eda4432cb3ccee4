-- The completion, said of the net and of who is active.
use Rattle.std.proofs.Common.{◌≡◌, ⊎_elim, ℕ, ◌+◌, ◌-◌, ◌<◌, ◌≤◌, true, false, eqb, List, [], ◌∷◌, ◌++◌, length, map, filter, reverse, sym, ap, ◌∙◌, subst, arith, append-nil, append_assoc, get_or, length-append}
use Rattle.std.specs.Bool.{IsTrue}
use Rattle.std.specs.List.{list_any, flat_map}
use Rattle.std.proofs.lemmas.Bool.{and_parts, and_from, or_cases, eqb-true, false≢true}
use Rattle.process_tree.specs.declared.entry.Entry.{Entry}
use Rattle.process_tree.specs.declared.plan.Plan.{Plan}
use Rattle.process_tree.specs.Shape.{fixed_len}
use Rattle.schedule_model.specs.declared.event.Event.{Event}
use Rattle.schedule_model.specs.declared.event.Event.TheVariants.{Start, Act, End}
use Rattle.schedule_model.specs.Completion.{is_to_undo, completion}
use Rattle.schedule_model.specs.Conflict.{no_conflict}
use Rattle.schedule_model.specs.Course.{Course, course_of, courses_of, shape}
use Rattle.schedule_model.specs.Histories.{active, is_active, is_in, net, net_of, net_steps, same_step, starts, undoing}
use Rattle.schedule_model.specs.Laws.{IsPlanned}
use Rattle.schedule_model.specs.Legal.{is_legal, may_come}
use Rattle.schedule_model.specs.OwnOrder.{is_in_own_order}
use Rattle.schedule_model.specs.Recovery.{backward_entries}
use Rattle.schedule_model.proofs.Active.{is_active-is_in}
use Rattle.schedule_model.proofs.Acting.{order_of}
use Rattle.schedule_model.proofs.Appends.{starts-append, is_in-append}
use Rattle.schedule_model.proofs.Induction.{by_legal}
use Rattle.schedule_model.proofs.Members.{Among, among-any, any-among, among-flat_map, in_flat_map, among-filter, among-is_in, is_in-among, filter-agree}
use Rattle.schedule_model.proofs.NetPaths.{net-branch}
use Rattle.schedule_model.proofs.NoConflict.{legal-from_own_order}
use Rattle.schedule_rules.proofs.Branches.{course_there}
use Rattle.schedule_rules.proofs.Known.{dropped}
use Rattle.schedule_rules.proofs.ListTests.{both_ways, each_from}
use Rattle.schedule_rules.specs.Recovering.{StandsOnBranch, StandsOnBranches, all_backward, closed_by, closing_among}

-- Who started.

-- numbers from 1 to n
abbrev Numbered : List Event → Type 0
Numbered h = (i : ℕ) → IsTrue (is_in i (starts h)) → (0 < i) × (i ≤ length (starts h))

numbered-same : (g h : List Event) → starts h ≡ starts g → Numbered g → Numbered h
numbered-same g h same is i listed =
    let was = is i (sym (ap (is_in i) same) ∙ listed) in
    (was.0, (let l = ap length same in let m = was.1 in omega arith))

module _ (courses : List Course) where
  numbered-start : (h : List Event) (k : ℕ) → IsTrue (may_come no_conflict courses h (Start k)) → Numbered h → Numbered (h ++ Start k ∷ [])
  numbered-start h k may is i listed =
      let next : k ≡ length (starts h) + 1 = eqb-true k (length (starts h) + 1) (order_of no_conflict courses h (Start k) may) in
      let grown : length (starts (h ++ Start k ∷ [])) ≡ length (starts h) + 1 = ap length (starts-append h (Start k ∷ [])) ∙ length-append (starts h) (k ∷ []) in
      ⊎_elim
      (λ before. let was = is i before in (was.0, (let m = was.1 in omega (arith, grown))))
      (λ now. let same : i ≡ k = one i k now in (omega (arith, same, next), omega (arith, same, next, grown)))
      (or_cases (is_in i (starts h)) (is_in i (k ∷ [])) (sym (ap (is_in i) (starts-append h (Start k ∷ [])) ∙ is_in-append i (starts h) (k ∷ [])) ∙ listed))
    where
      one : (i k : ℕ) → IsTrue (is_in i (k ∷ [])) → i ≡ k
      one i k is = ⊎_elim (λ here. eqb-true i k here) (λ none. absurd (false≢true none)) (or_cases (eqb i k) false is)

  numbered-more : (h : List Event) (e : Event) → IsTrue (may_come no_conflict courses h e) → Numbered h → Numbered (h ++ e ∷ [])
  numbered-more h (Start k) may is = numbered-start h k may is
  numbered-more h (Act e) may is = numbered-same h (h ++ Act e ∷ []) (starts-append h (Act e ∷ []) ∙ append-nil (starts h)) is
  numbered-more h (End k) may is = numbered-same h (h ++ End k ∷ []) (starts-append h (End k ∷ []) ∙ append-nil (starts h)) is

  -- those that started are numbered from 1
  pub started-numbered : (h : List Event) → IsTrue (is_legal no_conflict courses h) → (i : ℕ) → IsTrue (is_in i (starts h)) → (0 < i) × (i ≤ length (starts h))
  started-numbered h legal = by_legal no_conflict courses Numbered (λ g e before may is. numbered-more g e may is) (λ i none. absurd (false≢true none)) h legal

-- each active process of a history in own order has a plan, and what stands of it goes along a whole path
pub active_stand : (plans : List Plan) (h : List Event) → (operations : ℕ) × IsPlanned operations plans h → IsTrue (is_in_own_order (courses_of plans) h)
    → StandsOnBranches plans (net h) (active h)
active_stand plans h planned own = each_from (StandsOnBranch plans (net h)) (active h) (λ i there. stands i there)
  where
    legal : IsTrue (is_legal no_conflict (courses_of plans) h)
    legal = legal-from_own_order (courses_of plans) h own

    stands : (i : ℕ) → Among i (active h) → StandsOnBranch plans (net h) i
    stands i there =
        let goes : IsTrue (is_active h i) = sym (is_active-is_in h i) ∙ is_in-among i (active h) there in
        let numbers = started-numbered (courses_of plans) h legal i (and_parts (is_in i (starts h)) _ goes).0 in
        (numbers.0, (let m = numbers.1 in let one = planned.1.one_each in omega arith), net-branch (courses_of plans) i h legal)

-- What is to be undone.

module _ (courses : List Course) (h : List Event) where
  -- an entry of the backward recovery of a process is of that process
  of_its_process : (i : ℕ) (x : Entry) → Among x (backward_entries courses h i) → x.process ≡ i
  of_its_process i x is =
      eqb-true x.process i (among-filter (λ (e : Entry). eqb e.process i) x (net h) (dropped x (fixed_len (shape courses i) (net_steps h i)) (net_of h i) is)).1

  same_to_undo : (e : Entry) → is_to_undo courses h e ≡ list_any (same_step e) (all_backward courses (net h) (active h))
  same_to_undo e = both_ways (is_to_undo courses h e) (list_any (same_step e) (flat_map (backward_entries courses h) (active h))) to from
    where
      to : is_to_undo courses h e ≡ true → list_any (same_step e) (flat_map (backward_entries courses h) (active h)) ≡ true
      to is =
          let parts = and_parts (is_active h e.process) (list_any (same_step e) (backward_entries courses h e.process)) is in
          let found = among-any (same_step e) (backward_entries courses h e.process) parts.1 in
          any-among (same_step e) found.0 (flat_map (backward_entries courses h) (active h))
          (in_flat_map (backward_entries courses h) e.process found.0 (active h) (among-is_in e.process (active h) (is_active-is_in h e.process ∙ parts.0)) found.1) found.2

      from : list_any (same_step e) (flat_map (backward_entries courses h) (active h)) ≡ true → is_to_undo courses h e ≡ true
      from is =
          let found = among-any (same_step e) (flat_map (backward_entries courses h) (active h)) is in
          let there = among-flat_map (backward_entries courses h) found.0 (active h) found.1 in
          let same : e.process ≡ found.0.process = eqb-true e.process found.0.process (and_parts (eqb e.process found.0.process) (eqb e.step found.0.step) found.2).0 in
          let its : e.process ≡ there.0 = same ∙ of_its_process there.0 found.0 there.2 in
          and_from (is_active h e.process) (list_any (same_step e) (backward_entries courses h e.process))
          (ap (is_active h) its ∙ (sym (is_active-is_in h there.0) ∙ is_in-among there.0 (active h) there.1))
          (ap (λ k. list_any (same_step e) (backward_entries courses h k)) its ∙ any-among (same_step e) found.0 (backward_entries courses h there.0) there.2 found.2)

  -- what completion adds, by the net and who is active
  pub completion_is : map (λ e. Act (undoing e)) (reverse (filter (λ e. list_any (same_step e) (all_backward courses (net h) (active h))) (net h)))
      ++ closed_by courses (net h) (active h) ≡ completion courses h
  completion_is =
      ap (λ es. map (λ e. Act (undoing e)) (reverse es) ++ closed_by courses (net h) (active h))
      (sym (filter-agree (is_to_undo courses h) (λ e. list_any (same_step e) (all_backward courses (net h) (active h))) (net h) (λ e there. same_to_undo e)))

-- what one more active process adds
pub closing_more : (plans : List Plan) (p : Plan) (es : List Entry) (i : ℕ) (rest : List ℕ) (before now whole : List Event)
    → i - 1 < length plans → p ≡ get_or plans (i - 1) p → now ≡ before ++ closing_among (course_of p) es i
    → before ++ closed_by (courses_of plans) es (i ∷ rest) ≡ whole → now ++ closed_by (courses_of plans) es rest ≡ whole
closing_more plans p es i rest before now whole less at is all =
    ap (λ ns. ns ++ closed_by (courses_of plans) es rest) is
    ∙ (append_assoc before (closing_among (course_of p) es i) (closed_by (courses_of plans) es rest)
    ∙ (ap (λ c. before ++ (closing_among c es i ++ closed_by (courses_of plans) es rest)) (sym (course_there plans (i - 1) p less at)) ∙ all))

-- The same of lists that are those.

pub stand_there : (plans given : List Plan) (h : List Event) (es : List Entry) (is : List ℕ) → given ≡ plans → es ≡ net h → is ≡ active h
    → (operations : ℕ) × IsPlanned operations plans h → IsTrue (is_in_own_order (courses_of plans) h) → StandsOnBranches given es is
stand_there plans given h es is same net_is active_are planned own =
    subst (λ ps. StandsOnBranches ps es is) (sym same)
    (subst (λ xs. StandsOnBranches plans xs is) (sym net_is)
    (subst (StandsOnBranches plans (net h)) (sym active_are) (active_stand plans h planned own)))

-- the undos among these entries
abbrev pub undos_among : List Course → List Entry → List ℕ → List Event
undos_among courses es is = map (λ e. Act (undoing e)) (reverse (filter (λ e. list_any (same_step e) (all_backward courses es is)) es))

pub completed_there : (plans given : List Plan) (h added undos : List Event) (es fs : List Entry) (is js : List ℕ)
    → given ≡ plans → es ≡ net h → fs ≡ net h → is ≡ active h → js ≡ active h
    → undos ≡ undos_among (courses_of given) es is → added ≡ undos ++ closed_by (courses_of given) fs js → added ≡ completion (courses_of plans) h
completed_there plans given h added undos es fs is js same es_are fs_are is_are js_are first then =
    then
    ∙ (ap (λ xs. xs ++ closed_by (courses_of given) fs js) (first ∙ (ap (λ xs. undos_among (courses_of given) xs is) es_are ∙ ap (undos_among (courses_of given) (net h)) is_are))
    ∙ (ap (λ xs. undos_among (courses_of given) (net h) (active h) ++ closed_by (courses_of given) xs js) fs_are
    ∙ (ap (λ ks. undos_among (courses_of given) (net h) (active h) ++ closed_by (courses_of given) (net h) ks) js_are
    ∙ (ap (λ ps. undos_among (courses_of ps) (net h) (active h) ++ closed_by (courses_of ps) (net h) (active h)) same
    ∙ completion_is (courses_of plans) h))))
