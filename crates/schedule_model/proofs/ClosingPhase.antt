-- Completion after an owed step, and after an end, is the rest of it.
use Rattle.std.proofs.Common.{◌≡◌, ℕ, Bool, true, false, not, cond, eqb, ◌&&◌, List, [], ◌∷◌, ◌++◌, map, filter, reverse, sym, refl, ap, ◌∙◌, subst}
use Rattle.std.proofs.Math.Bool.{and-false}
use Rattle.std.specs.Bool.{IsTrue}
use Rattle.std.specs.List.{list_any, list_all, flat_map}
use Rattle.std.proofs.lemmas.Bool.{eq-eqb, eqb-true, and_parts, false≢true, not-true}
use Rattle.std.proofs.lemmas.List.Elements.{filter-append}
use Rattle.process_tree.specs.declared.entry.Entry.{Entry}
use Rattle.process_tree.specs.Shape.{commits_after}
use Rattle.schedule_model.specs.declared.event.Event.{Event}
use Rattle.schedule_model.specs.declared.event.Event.TheVariants.{Act, End}
use Rattle.schedule_model.specs.Course.{Course, shape}
use Rattle.schedule_model.specs.Histories.{active, is_active, is_in, net, net_steps, same_step, doing, undoing}
use Rattle.schedule_model.specs.Recovery.{backward_entries, owed, owed_after}
use Rattle.schedule_model.specs.Completion.{is_to_undo, all_backward_entries, closing, completion}
use Rattle.schedule_model.proofs.Snoc.{net-do, net-end, net_of-other, net_of-end, backward_entries-by_net, owed-by_net, is_active-do, active-do, active-end}
use Rattle.schedule_model.proofs.Active.{is_active-is_in, is_in-filter}
use Rattle.schedule_model.proofs.Recoveries.{backward_entries-commit, owed-do}
use Rattle.schedule_model.proofs.Conflicts.{same_either_way}
use Rattle.schedule_model.proofs.Members.{filter-none, none_pass}

-- where nothing passes, nothing passes a test that is harder
none_through : {X : Type 0} (p q : X → Bool) (xs : List X) → ((x : X) → p x ≡ false → q x ≡ false) → filter p xs ≡ [] → filter q xs ≡ []
none_through p q xs h none = filter-none q xs (λ x is. h x (none_pass p xs none x is))

module _ (courses : List Course) (h : List Event) (i : ℕ) (others : List ℕ) (first : active h ≡ i ∷ others) (undone : all_backward_entries courses h ≡ []) where
  module _ (b : ℕ) (rest : List Entry) (next : owed courses h i ≡ doing courses i b ∷ rest) (point : commits_after (shape courses i) (net_steps h i) b ≡ true)
      (then_owed : owed_after courses h i b ≡ rest) where
    abbrev then_done : List Event
    then_done = h ++ Act (doing courses i b) ∷ []

    other_fails : (e : Entry) (own : Bool) → eqb i e.process ≡ own → is_to_undo courses h e ≡ false → is_to_undo courses then_done e ≡ false
    other_fails e true own fails =
        let same = eqb-true i e.process own in
        ap (λ us. is_active then_done e.process && list_any (same_step e) us) (subst (λ k. backward_entries courses then_done k ≡ []) same (backward_entries-commit courses h (doing courses i b) refl point))
        ∙ and-false (is_active then_done e.process)
    other_fails e false own fails =
        ap (λ a. a && list_any (same_step e) (backward_entries courses then_done e.process)) (is_active-do h (doing courses i b) e.process)
        ∙ (ap (λ us. is_active h e.process && list_any (same_step e) us) (backward_entries-by_net courses then_done h e.process (net_of-other h (doing courses i b) e.process own))
        ∙ fails)

    own_fails : is_to_undo courses then_done (doing courses i b) ≡ false
    own_fails = ap (λ us. is_active then_done i && list_any (same_step (doing courses i b)) us) (backward_entries-commit courses h (doing courses i b) refl point) ∙ and-false (is_active then_done i)

    -- nothing is to be undone after the step
    undone_after : all_backward_entries courses then_done ≡ []
    undone_after =
        ap (filter (is_to_undo courses then_done)) (net-do h (doing courses i b) refl)
        ∙ (filter-append (is_to_undo courses then_done) (net h) (doing courses i b ∷ [])
        ∙ (ap (λ es. es ++ filter (is_to_undo courses then_done) (doing courses i b ∷ [])) (none_through (is_to_undo courses h) (is_to_undo courses then_done) (net h) (λ e. other_fails e (eqb i e.process) refl) undone)
        ∙ ap (λ t. cond t (doing courses i b ∷ []) []) own_fails))

    closing_other : (k : ℕ) (own : Bool) → eqb i k ≡ own → own ≡ false → closing courses then_done k ≡ closing courses h k
    closing_other k true own is = absurd (false≢true (sym is))
    closing_other k false own is = ap (λ es. map Act es ++ End k ∷ []) (owed-by_net courses then_done h k (net_of-other h (doing courses i b) k own))

    closings : (ks : List ℕ) → IsTrue (list_all (λ k. not (eqb i k)) ks) → flat_map (closing courses then_done) ks ≡ flat_map (closing courses h) ks
    closings [] all = refl
    closings (k ∷ ks) all =
        let parts = and_parts (not (eqb i k)) (list_all (λ j. not (eqb i j)) ks) all in
        ap (λ es. es ++ flat_map (closing courses then_done) ks) (closing_other k (eqb i k) refl (not-true (eqb i k) parts.0))
        ∙ ap (λ es. closing courses h k ++ es) (closings ks parts.1)

    -- completion goes on with the rest after an owed step
    pub completion-after_owed : IsTrue (list_all (λ k. not (eqb i k)) others) → completion courses h ≡ Act (doing courses i b) ∷ completion courses then_done
    completion-after_owed apart =
        ap (λ us. map (λ e. Act (undoing e)) (reverse us) ++ flat_map (closing courses h) (active h)) undone
        ∙ (ap (flat_map (closing courses h)) first
        ∙ (ap (λ es. map Act es ++ End i ∷ [] ++ flat_map (closing courses h) others) next
        ∙ ap (λ es. Act (doing courses i b) ∷ es)
        (ap (λ es. map Act es ++ End i ∷ [] ++ flat_map (closing courses h) others) (sym then_owed ∙ sym (owed-do courses h (doing courses i b) refl))
        ∙ (ap (λ es. closing courses then_done i ++ es) (sym (closings others apart))
        ∙ (ap (flat_map (closing courses then_done)) (sym first ∙ sym (active-do h (doing courses i b)))
        ∙ ap (λ us. map (λ e. Act (undoing e)) (reverse us) ++ flat_map (closing courses then_done) (active then_done)) (sym undone_after))))))

  module _ (nothing : owed courses h i ≡ []) where
    abbrev then_ended : List Event
    then_ended = h ++ End i ∷ []

    still_active : (k : ℕ) → is_active then_ended k ≡ (is_active h k && not (eqb k i))
    still_active k =
        sym (is_active-is_in then_ended k)
        ∙ (ap (is_in k) (active-end h i)
        ∙ (is_in-filter (λ j. not (eqb j i)) k (active h)
        ∙ ap (λ a. a && not (eqb k i)) (is_active-is_in h k)))

    fails_still : (a n l : Bool) → (a && l) ≡ false → ((a && n) && l) ≡ false
    fails_still true true l fails = fails
    fails_still true false l fails = refl
    fails_still false n l fails = refl

    end_fails : (e : Entry) → is_to_undo courses h e ≡ false → is_to_undo courses then_ended e ≡ false
    end_fails e fails =
        ap (λ us. is_active then_ended e.process && list_any (same_step e) us) (backward_entries-by_net courses then_ended h e.process (net_of-end h i e.process))
        ∙ (ap (λ a. a && list_any (same_step e) (backward_entries courses h e.process)) (still_active e.process)
        ∙ fails_still (is_active h e.process) (not (eqb e.process i)) (list_any (same_step e) (backward_entries courses h e.process)) fails)

    -- nothing is to be undone after the end
    undone_at_end : all_backward_entries courses then_ended ≡ []
    undone_at_end =
        ap (filter (is_to_undo courses then_ended)) (net-end h i)
        ∙ none_through (is_to_undo courses h) (is_to_undo courses then_ended) (net h) end_fails undone

    others_stay : (ks : List ℕ) → IsTrue (list_all (λ k. not (eqb i k)) ks) → filter (λ k. not (eqb k i)) ks ≡ ks
    others_stay [] all = refl
    others_stay (k ∷ ks) all =
        let parts = and_parts (not (eqb i k)) (list_all (λ j. not (eqb i j)) ks) all in
        ap (λ t. cond (not t) (k ∷ filter (λ j. not (eqb j i)) ks) (filter (λ j. not (eqb j i)) ks)) (same_either_way i k false (not-true (eqb i k) parts.0))
        ∙ ap (λ js. k ∷ js) (others_stay ks parts.1)

    active_at_end : IsTrue (list_all (λ k. not (eqb i k)) others) → active then_ended ≡ others
    active_at_end apart =
        active-end h i
        ∙ (ap (filter (λ k. not (eqb k i))) first
        ∙ (ap (λ t. cond (not t) (i ∷ filter (λ k. not (eqb k i)) others) (filter (λ k. not (eqb k i)) others)) (eq-eqb i i refl)
        ∙ others_stay others apart))

    same_closings : (ks : List ℕ) → flat_map (closing courses then_ended) ks ≡ flat_map (closing courses h) ks
    same_closings [] = refl
    same_closings (k ∷ ks) =
        ap (λ es. map Act es ++ End k ∷ [] ++ flat_map (closing courses then_ended) ks) (owed-by_net courses then_ended h k (net_of-end h i k))
        ∙ ap (λ es. closing courses h k ++ es) (same_closings ks)

    -- completion goes on with the rest after an end
    pub completion-after_end : IsTrue (list_all (λ k. not (eqb i k)) others) → completion courses h ≡ End i ∷ completion courses then_ended
    completion-after_end apart =
        ap (λ us. map (λ e. Act (undoing e)) (reverse us) ++ flat_map (closing courses h) (active h)) undone
        ∙ (ap (flat_map (closing courses h)) first
        ∙ (ap (λ es. map Act es ++ End i ∷ [] ++ flat_map (closing courses h) others) nothing
        ∙ ap (λ es. End i ∷ es)
        (sym (same_closings others)
        ∙ (ap (flat_map (closing courses then_ended)) (sym (active_at_end apart))
        ∙ ap (λ us. map (λ e. Act (undoing e)) (reverse us) ++ flat_map (closing courses then_ended) (active then_ended)) (sym undone_at_end)))))
