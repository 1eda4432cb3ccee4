-- The standing facts of legal histories, as they are stated; what has ended doesn't block; and the completion law.
use Rattle.std.proofs.Common.{◌≡◌, ◌⊎◌, inl, inr, ⊎_elim, ℕ, Bool, true, false, not, eqb, ◌&&◌, ◌||◌, List, [], ◌∷◌, ◌++◌, length, sym, refl, ap, ◌∙◌, subst}
use Rattle.std.specs.Bool.{IsTrue}
use Rattle.std.proofs.lemmas.Bool.{and_parts, and_from, eqb-true, or_left, not-true, false≢true}
use Rattle.process_tree.specs.Entries.{access_of}
use Rattle.process_tree.specs.declared.entry.Entry.{Entry}
use Rattle.process_tree.specs.declared.plan.Plan.{Plan}
use Rattle.process_tree.specs.Recovery.{reserved}
use Rattle.schedule_model.specs.declared.event.Event.TheVariants.{Act, End}
use Rattle.schedule_model.specs.declared.event.Event.{Event}
use Rattle.schedule_model.specs.Course.{Course, courses_of, access_at}
use Rattle.schedule_model.specs.Conflict.{ConflictRelation, IsSymmetric, conflict}
use Rattle.schedule_model.specs.Histories.{active, after_number, doing, ends, is_active, is_in, net, net_of, outlives, same_step, starts, undoing}
use Rattle.schedule_model.specs.Recovery.{owed, backward_entries}
use Rattle.schedule_model.specs.Completion.{all_backward_entries, completion, completed, is_to_undo}
use Rattle.schedule_model.specs.Holdings.{at_rest, behind, holders, of_active}
use Rattle.schedule_model.specs.Blocking.{against_undo}
use Rattle.schedule_model.specs.OwnOrder.{keeps_order}
use Rattle.schedule_model.specs.Legal.{class_in, is_clear, is_legal, may_come}
use Rattle.schedule_model.specs.Laws.{AreGood, StandingFacts, StandingFactsHold, CompletionLaw, EndedDontBlockUndos}
use Rattle.schedule_model.proofs.Induction.{passes-push}
use Rattle.schedule_model.proofs.Members.{Among, among-append, among-filter, in_filter, among-any, among-from_contains, among_there}
use Rattle.schedule_model.proofs.Behind.{has_step, among_behind, behind-filter, behind-none, behind-split, same_step-process, same_step-symmetric}
use Rattle.schedule_model.proofs.Apart.{Apart, Apart-filter, Apart-last, net-apart}
use Rattle.schedule_model.proofs.Conflicts.{conflict-symmetric}
use Rattle.schedule_model.proofs.Clear.{LaterApart, EntriesApart, OwedApart, clear-undo, clear-reserved, clear-end, is_holder, among_active_net}
use Rattle.schedule_model.proofs.NoConflict.{own_order-legal, legal-from_own_order, reducible-legal}
use Rattle.schedule_model.proofs.Started.{among_net_of, net-started}
use Rattle.schedule_model.proofs.OwedFree.{OwedFree, owed-free}
use Rattle.schedule_model.proofs.FixedFree.{FixedFree, fixed-free}
use Rattle.schedule_model.proofs.EndedFree.{EndedFree, ended-free}
use Rattle.schedule_model.proofs.Orders.{same_step-through, behind-same_step}
use Rattle.schedule_model.proofs.Aside.{undo-aside}
use Rattle.schedule_model.proofs.CompletionFirst.{First, WhatComes, net-of_plans}
use Rattle.schedule_model.proofs.CompletionLaws.{along_completion, all-at_ends}
use Rattle.schedule_model.proofs.Members.{not_any, all-among}

module _ (table : ConflictRelation) (plans : List Plan) (h : List Event) (symmetric : IsSymmetric table) (good : AreGood plans)
    (legal : IsTrue (is_legal table (courses_of plans) h)) where
  abbrev cs : List Course
  cs = courses_of plans

  owed_facts : OwedFree table symmetric plans good h
  owed_facts = owed-free table symmetric plans good h legal

  fixed_facts : FixedFree table symmetric plans good h
  fixed_facts = fixed-free table symmetric plans good h legal

  ended_facts : EndedFree table symmetric cs h
  ended_facts = ended-free table symmetric cs h (reducible-legal cs table h legal)

  owed_against : (i k : ℕ) (s e : Entry) → IsTrue (is_active h i) → IsTrue (is_active h k) → Among s (owed cs h i)
      → Among e (net_of h k) ⊎ Among e (owed cs h k) → conflict table s e ≡ false
  owed_against i k s e goes other owes (inl stands) =
      let found = among_net_of h k e stands in
      owed_facts.from_net i s e goes owes found.0 (ap (is_active h) found.1 ∙ other)
  owed_against i k s e goes other owes (inr owed') = owed_facts.from_owed i k s e goes other owes owed'

  pub standing_facts : StandingFacts table cs h
  standing_facts = record {
    owed_is_free = λ i k s e goes other owes stands.
        owed_against i k s e goes other (among-from_contains s (owed cs h i) owes)
        (among-append e (net_of h k) (owed cs h k) (among-from_contains e (net_of h k ++ owed cs h k) stands));
    fixed_is_free = λ i k x e goes other x_in e_in fixed back.
        let one = among_net_of h k x (among-from_contains x (net_of h k) x_in) in
        let two = among_net_of h i e (among-from_contains e (net_of h i) e_in) in
        fixed_facts x e one.0 (ap (is_active h) one.1 ∙ other) two.0 (ap (is_active h) two.1 ∙ goes)
        (ap (λ j. has_step e (backward_entries cs h j)) two.1 ∙ not-true (has_step e (backward_entries cs h i)) fixed)
        (among-from_contains e (behind x (net h)) back);
    ended_is_free = λ i k x e ended lives x_in e_in back.
        let one = among_net_of h k x (among-from_contains x (net_of h k) x_in) in
        let two = among_net_of h i e (among-from_contains e (net_of h i) e_in) in
        ended_facts x e (ap (λ j. is_in j (ends h)) two.1 ∙ ended)
        (ap (λ j. outlives h j e.process) one.1 ∙ (ap (outlives h k) two.1 ∙ lives))
        one.0 (among-from_contains e (behind x (net h)) back);
  }

  -- an entry that stands is of a process that ended or is active
  ended_or_active : (y : Entry) → Among y (net h) → IsTrue (is_in y.process (ends h)) ⊎ IsTrue (is_active h y.process)
  ended_or_active y is = by_end (is_in y.process (ends h)) refl
    where
      by_end : (t : Bool) → is_in y.process (ends h) ≡ t → IsTrue (is_in y.process (ends h)) ⊎ IsTrue (is_active h y.process)
      by_end true ended = inl ended
      by_end false open' = inr (and_from (is_in y.process (starts h)) (not (is_in y.process (ends h))) (net-started table cs h legal y is) (ap not open'))

  outlives-active : (k i : ℕ) → IsTrue (is_active h k) → IsTrue (outlives h k i)
  outlives-active k i goes = or_left (is_active h k) (is_in k (after_number i (ends h))) goes

  -- What comes in a completion is clear.

  -- whatever is of a step that is to be undone is to be undone
  to_undo-same : (x f : Entry) → is_to_undo cs h x ≡ true → same_step x f ≡ true → is_to_undo cs h f ≡ true
  to_undo-same x f is same =
      let own = same_step-process x f same in
      let parts = and_parts (is_active h x.process) (has_step x (backward_entries cs h x.process)) is in
      and_from (is_active h f.process) (has_step f (backward_entries cs h f.process)) (ap (is_active h) (sym own) ∙ parts.0)
      (same_any (backward_entries cs h f.process) ∙ (ap (λ k. has_step x (backward_entries cs h k)) (sym own) ∙ parts.1))
    where
      same_any : (es : List Entry) → has_step f es ≡ has_step x es
      same_any [] = refl
      same_any (e ∷ es) = ap (λ t. t || has_step f es) (sym (same_step-through x f e same)) ∙ ap (λ t. same_step x e || t) (same_any es)

  module _ (front : List Entry) (x : Entry) (last : all_backward_entries cs h ≡ front ++ x ∷ []) where
    x_there : Among x (net h) × (is_to_undo cs h x ≡ true)
    x_there = among-filter (is_to_undo cs h) x (net h) (subst (Among x) (sym last) (among_there front x []))

    x_active : IsTrue (is_active h x.process)
    x_active = (and_parts (is_active h x.process) (has_step x (backward_entries cs h x.process)) x_there.1).0

    -- nothing that is to be undone stands behind the last
    nothing_behind : behind x (all_backward_entries cs h) ≡ []
    nothing_behind =
        let apart = subst Apart last (Apart-filter (is_to_undo cs h) (net h) (net-apart table cs h legal)) in
        let none : has_step x front ≡ false = not_any (same_step x) front (λ e is. same_step-both e (all-among (λ f. not (same_step f x)) front (Apart-last front x apart) e is)) in
        ap (behind x) last ∙ behind-split front x [] none
      where
        same_step-both : (e : Entry) → not (same_step e x) ≡ true → same_step x e ≡ false
        same_step-both e is = same_step-symmetric x e ∙ not-true (same_step e x) is

    undo_apart : LaterApart table cs h (undoing x)
    undo_apart y back = by_process (ended_or_active y (among_behind x y (net h) back))
      where
        by_fixed : IsTrue (is_active h y.process) → (t : Bool) → has_step y (backward_entries cs h y.process) ≡ t → conflict table x y ≡ false
        by_fixed goes true loose =
            let listed = in_filter (is_to_undo cs h) y (behind x (net h)) back (and_from (is_active h y.process) (has_step y (backward_entries cs h y.process)) goes loose) in
            absurd (subst (Among y) (sym (behind-filter (is_to_undo cs h) x (net h) (λ f same. to_undo-same x f x_there.1 same)) ∙ nothing_behind) listed)
        by_fixed goes false fixed = fixed_facts x y x_there.0 x_active (among_behind x y (net h) back) goes fixed back

        by_process : IsTrue (is_in y.process (ends h)) ⊎ IsTrue (is_active h y.process) → conflict table x y ≡ false
        by_process (inl ended) = ended_facts x y ended (outlives-active x.process y.process x_active) x_there.0 back
        by_process (inr goes) = by_fixed goes (has_step y (backward_entries cs h y.process)) refl

  reserved_apart : (i b : ℕ) → IsTrue (is_active h i) → Among (doing cs i b) (owed cs h i) → OwedApart table cs h (doing cs i b)
  reserved_apart i b goes owes k s active owed' = owed_facts.from_owed i k (doing cs i b) s goes active owes owed'

  end_apart : (i : ℕ) → IsTrue (is_active h i) → backward_entries cs h i ≡ [] → EntriesApart table cs h i
  end_apart i goes none x y front back own =
      let there = among_active_net cs h x front in
      let p : Entry → Bool = λ (f : Entry). is_in f.process (holders (at_rest cs h)) in
      let back_in = (among-filter p y (behind x (net h))
      (subst (Among y) (behind-filter p x (net h) (λ f same. is_holder cs h f.process ∙ (ap (is_active h) (sym (same_step-process x f same)) ∙ there.1))) back)).0 in
      conflict-symmetric table symmetric y x
      ∙ fixed_facts x y there.0 there.1 (among_behind x y (net h) back_in) (ap (is_active h) own ∙ goes) (ap (λ k. has_step y (backward_entries cs h k)) own ∙ ap (has_step y) none) back_in

  -- a step that an active process owes may come
  owed_clear : (i b : ℕ) → IsTrue (is_active h i) → class_in cs h i b ≡ reserved → Among (doing cs i b) (owed cs h i) → IsTrue (is_clear table cs h (Act (doing cs i b)))
  owed_clear i b goes class owes = clear-reserved table cs h (doing cs i b) refl class (reserved_apart i b goes owes)

  undo_comes : (e : Event) (front : List Entry) (x : Entry) → e ≡ Act (undoing x) → all_backward_entries cs h ≡ front ++ x ∷ [] → IsTrue (is_clear table cs h e)
  undo_comes e front x is last = subst (λ f. IsTrue (is_clear table cs h f)) (sym is) (clear-undo table cs h (undoing x) refl (undo_apart front x last))

  owed_comes : (e : Event) (i b : ℕ) → e ≡ Act (doing cs i b) → IsTrue (is_clear table cs h (Act (doing cs i b))) → IsTrue (is_clear table cs h e)
  owed_comes e i b is clear = subst (λ f. IsTrue (is_clear table cs h f)) (sym is) clear

  end_comes : (e : Event) (i : ℕ) → e ≡ End i → IsTrue (is_active h i) → backward_entries cs h i ≡ [] → IsTrue (is_clear table cs h e)
  end_comes e i is goes none = subst (λ f. IsTrue (is_clear table cs h f)) (sym is) (clear-end table cs h i (end_apart i goes none))

  what_comes : (e : Event) → WhatComes cs h e → IsTrue (is_clear table cs h e)
  what_comes e (inl undo) = undo_comes e undo.0 undo.1 undo.2 undo.3
  what_comes e (inr (inl step)) = owed_comes e step.0 step.1 step.2 (owed_clear step.0 step.1 step.3 step.4 step.5)
  what_comes e (inr (inr end)) = end_comes e end.0 end.1 end.2 end.3

  -- the first event of a completion may come
  first_clear : (f : First cs h) → IsTrue (is_clear table cs h f.event)
  first_clear f = what_comes f.event f.what

  -- A later entry of an ended process doesn't stand against an undo.
  module _ (x : Entry) (goes : IsTrue (is_active h x.process)) (planned : access_of x ≡ access_at cs x.process x.step) where
    by_ended : (y : Entry) → Among y (behind x (net h)) → IsTrue (is_in y.process (ends h)) → conflict table x y ≡ false
    by_ended y back ended = by_there (has_step x (net h)) refl
      where
        by_there : (t : Bool) → has_step x (net h) ≡ t → conflict table x y ≡ false
        by_there false out = absurd (subst (Among y) (behind-none x (net h) out) back)
        by_there true there =
            let found = among-any (same_step x) (net h) there in
            let z = found.0 in
            let own : x.process ≡ z.process = same_step-process x z found.2 in
            let step : x.step ≡ z.step = eqb-true x.step z.step (and_parts (eqb x.process z.process) (eqb x.step z.step) found.2).1 in
            let does_same : access_of x ≡ access_of z = planned ∙ (ap (λ p. access_at cs p x.step) own ∙ (ap (access_at cs z.process) step
            ∙ sym (net-of_plans plans good h (legal-from_own_order cs h (own_order-legal cs table h legal)) z found.1))) in
            let same_behind : behind x (net h) ≡ behind z (net h) = behind-same_step (net h) x z found.2 in
            ap (λ p. not (eqb p y.process) && table (access_of x) (access_of y)) own
            ∙ (ap (λ o. not (eqb z.process y.process) && table o (access_of y)) does_same
            ∙ ended_facts z y ended (outlives-active z.process y.process (ap (is_active h) (sym own) ∙ goes)) found.1 (subst (Among y) same_behind back))

    pub aside_undo : against_undo table (of_active (at_rest cs h)) x ≡ against_undo table (at_rest cs h) x
    aside_undo = undo-aside table (at_rest cs h) x (is_holder cs h x.process ∙ goes) conflicting_active
      where
        conflicting_active : (y : Entry) → Among y (behind x (net h)) → conflict table x y ≡ true → IsTrue (is_in y.process (holders (at_rest cs h)))
        conflicting_active y back conflicts =
            ⊎_elim
            (λ ended. absurd (false≢true (sym (by_ended y back ended) ∙ conflicts)))
            (λ acts. is_holder cs h y.process ∙ acts)
            (ended_or_active y (among_behind x y (net h) back))

pub standing-facts : StandingFactsHold
standing-facts table plans h good = standing_facts table plans h good.symmetric good.good good.legal

pub ended-dont_block_undos : EndedDontBlockUndos
ended-dont_block_undos table plans h x good goes planned = aside_undo table plans h good.symmetric good.good good.legal x goes planned

-- the first event of a completion may come, so the completed history is legal
first-legal : (table : ConflictRelation) (plans : List Plan) (symmetric : IsSymmetric table) (good : AreGood plans) (h : List Event) (f : First (courses_of plans) h)
    → IsTrue (is_legal table (courses_of plans) h) → IsTrue (is_legal table (courses_of plans) (h ++ f.event ∷ []))
first-legal table plans symmetric good h f legal =
    let cs = courses_of plans in
    passes-push (may_come table cs) h f.event legal
    (and_from (keeps_order cs h f.event) (is_clear table cs h f.event) f.keeps (first_clear table plans h symmetric good legal f))

-- a completed history is legal over the same plans, and nobody is active in it
pub completed-legal : (table : ConflictRelation) (plans : List Plan) → IsSymmetric table → AreGood plans → (h : List Event) → IsTrue (is_legal table (courses_of plans) h)
    → IsTrue (is_legal table (courses_of plans) (completed (courses_of plans) h)) × (active (completed (courses_of plans) h) ≡ [])
completed-legal table plans symmetric good h legal =
    let cs = courses_of plans in
    let done = along_completion plans good (λ g. IsTrue (is_legal table cs g)) (λ g f own before. first-legal table plans symmetric good g f before)
    (length (completion cs h)) h refl (own_order-legal cs table h legal) legal in
    (done.0, done.2)

pub completion-law : CompletionLaw
completion-law table plans h good =
    let cs = courses_of plans in
    let done = completed-legal table plans good.symmetric good.good h good.legal in
    (done.0, done.1, all-at_ends cs (completed cs h) (legal-from_own_order cs (completed cs h) (own_order-legal cs table (completed cs h) done.0)) done.1)
