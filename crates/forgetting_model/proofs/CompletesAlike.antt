-- Completion adds the same to the whole and to what remains.
use Rattle.std.proofs.Common.{◌≡◌, inl, inr, ℕ, Bool, true, false, ◌&&◌, List, [], ◌∷◌, ◌++◌, map, filter, sym, refl, ap, ◌∙◌}
use Rattle.std.specs.Prelude.{reverse}
use Rattle.std.specs.Bool.{IsTrue}
use Rattle.std.specs.List.{flat_map, list_any}
use Rattle.std.proofs.lemmas.Bool.{and_parts}
use Rattle.std.proofs.lemmas.List.{map-append}
use Rattle.process_tree.specs.declared.entry.Entry.{Entry}
use Rattle.schedule_model.specs.declared.event.Event.{Event}
use Rattle.schedule_model.specs.declared.event.Event.TheVariants.{Act, End}
use Rattle.schedule_model.specs.Course.{Course}
use Rattle.schedule_model.specs.Conflict.{ConflictRelation}
use Rattle.schedule_model.specs.Histories.{active, is_active, net, same_step, undoing}
use Rattle.schedule_model.specs.Recovery.{backward_entries, owed}
use Rattle.schedule_model.specs.Completion.{all_backward_entries, closing, completion, is_to_undo}
use Rattle.schedule_model.proofs.Active.{is_active-is_in}
use Rattle.schedule_model.proofs.Members.{Among, among-filter, filter-agree, is_in-among}
use Rattle.forgetting_model.specs.Remaining.{as_before, courses_left, events_of, is_open, number_in, remaining, renumbered, renumbered_entry, renumbered_event}
use Rattle.forgetting_model.specs.Laws.{CompletionIsTheSame}
use Rattle.forgetting_model.proofs.ClearBefore.{filter_each, same_active}
use Rattle.forgetting_model.proofs.ComesBy.{SameCourses}
use Rattle.forgetting_model.proofs.Dropped.{filters-either_way, kept_entry, net-kept, stays_kept}
use Rattle.forgetting_model.proofs.Invisible.{courses_alike, opens}
use Rattle.forgetting_model.proofs.Lives.{numbers-apart, whole-open}
use Rattle.forgetting_model.proofs.Mapped.{any-mapped, filter-mapped, map-mapped, reverse-mapped}
use Rattle.forgetting_model.proofs.Renumbered.{AreApart, active-by, backward-by, is_active-by, net-by, owed-by, same_step-by}

-- lists one after another that are the same, each
pub flat_agree : {X Y : Type 0} (f g : X → List Y) (xs : List X) → ((x : X) → Among x xs → f x ≡ g x) → flat_map f xs ≡ flat_map g xs
flat_agree f g [] same = refl
flat_agree f g (x ∷ xs) same = ap (λ ys. ys ++ flat_map f xs) (same x (inl refl)) ∙ ap (λ ys. g x ++ ys) (flat_agree f g xs (λ y is. same y (inr is)))

-- Where only ended processes are left out, the same is to be undone and to be closed.
module _ (courses : List Course) (h : List Event) (keep : ℕ → Bool) (open' : (i : ℕ) → IsTrue (is_active h i) → keep i ≡ true) where
  abbrev g : List Event
  g = events_of keep h

  to_undo_alike : (e : Entry) → keep e.process ≡ true → is_to_undo courses g e ≡ is_to_undo courses h e
  to_undo_alike e stays =
      let s = stays_kept keep courses h e.process stays in
      ap (λ t. t && list_any (same_step e) (backward_entries courses g e.process)) s.active ∙ ap (λ es. is_active h e.process && list_any (same_step e) es) s.backward

  backward_alike : all_backward_entries courses g ≡ all_backward_entries courses h
  backward_alike =
      ap (filter (is_to_undo courses g)) (net-kept keep h)
      ∙ (filter-agree (is_to_undo courses g) (is_to_undo courses h) (filter (kept_entry keep) (net h))
      (λ e among. to_undo_alike e (among-filter (kept_entry keep) e (net h) among).1)
      ∙ (filters-either_way (kept_entry keep) (is_to_undo courses h) (net h)
      ∙ filter_each (kept_entry keep) (filter (is_to_undo courses h) (net h))
      (λ e among. open' e.process (and_parts (is_active h e.process) (list_any (same_step e) (backward_entries courses h e.process)) (among-filter (is_to_undo courses h) e (net h) among).1).0)))

  closing_alike : (i : ℕ) → keep i ≡ true → closing courses g i ≡ closing courses h i
  closing_alike i stays =
      let s = stays_kept keep courses h i stays in
      ap (λ es. map (λ e. Act e) es ++ End i ∷ []) s.owes

  pub completion-kept : (table : ConflictRelation) → completion courses (events_of keep h) ≡ completion courses h
  completion-kept table =
      ap (λ es. map (λ e. Act (undoing e)) (reverse es) ++ flat_map (closing courses g) (active g)) backward_alike
      ∙ ap (λ xs. map (λ e. Act (undoing e)) (reverse (all_backward_entries courses h)) ++ xs)
      (ap (flat_map (closing courses g)) (same_active table courses h keep open')
      ∙ flat_agree (closing courses g) (closing courses h) (active h)
      (λ i among. closing_alike i (open' i (sym (is_active-is_in h i) ∙ is_in-among i (active h) among))))

-- By other numbers the same is to be undone and to be closed.
module _ (number : ℕ → ℕ) (apart : AreApart number) (courses since : List Course) (h : List Event) (same : SameCourses number apart courses since h) where
  abbrev now : List Event
  now = renumbered number h

  to_undo_by : (e : Entry) (t : Bool) → is_active h e.process ≡ t → is_to_undo courses now (renumbered_entry number e) ≡ is_to_undo since h e
  to_undo_by e true goes =
      ap (λ t. t && list_any (same_step (renumbered_entry number e)) (backward_entries courses now (number e.process))) (is_active-by number apart h e.process)
      ∙ ap (λ t. is_active h e.process && t)
      (ap (list_any (same_step (renumbered_entry number e))) (backward-by number apart courses since h e.process (same e.process goes))
      ∙ any-mapped (renumbered_entry number) (same_step (renumbered_entry number e)) (same_step e) (backward_entries since h e.process) (λ f. same_step-by number apart e f))
  to_undo_by e false out =
      ap (λ t. t && list_any (same_step (renumbered_entry number e)) (backward_entries courses now (number e.process))) (is_active-by number apart h e.process ∙ out)
      ∙ sym (ap (λ t. t && list_any (same_step e) (backward_entries since h e.process)) out)

  backward_by : all_backward_entries courses now ≡ map (renumbered_entry number) (all_backward_entries since h)
  backward_by =
      ap (filter (is_to_undo courses now)) (net-by number apart h)
      ∙ filter-mapped (renumbered_entry number) (is_to_undo courses now) (is_to_undo since h) (net h) (λ e. to_undo_by e (is_active h e.process) refl)

  closing_by : (i : ℕ) → IsTrue (is_active h i) → closing courses now (number i) ≡ renumbered number (closing since h i)
  closing_by i goes =
      ap (λ es. map (λ e. Act e) es ++ End (number i) ∷ []) (owed-by number apart courses since h i (same i goes))
      ∙ (ap (λ xs. xs ++ End (number i) ∷ []) (map-mapped (renumbered_entry number) (λ e. Act e) (λ e. Act e) (renumbered_event number) (owed since h i) (λ e. refl))
      ∙ sym (map-append (renumbered_event number) (map (λ e. Act e) (owed since h i)) (End i ∷ [])))

  closings_by : (is : List ℕ) → ((i : ℕ) → Among i is → IsTrue (is_active h i)) → flat_map (closing courses now) (map number is) ≡ renumbered number (flat_map (closing since h) is)
  closings_by [] active = refl
  closings_by (i ∷ is) active =
      ap (λ xs. xs ++ flat_map (closing courses now) (map number is)) (closing_by i (active i (inl refl)))
      ∙ (ap (λ xs. renumbered number (closing since h i) ++ xs) (closings_by is (λ k among. active k (inr among)))
      ∙ sym (map-append (renumbered_event number) (closing since h i) (flat_map (closing since h) is)))

  undos_by : (es : List Entry) → map (λ e. Act (undoing e)) (reverse (map (renumbered_entry number) es)) ≡ renumbered number (map (λ e. Act (undoing e)) (reverse es))
  undos_by es =
      ap (map (λ e. Act (undoing e))) (reverse-mapped (renumbered_entry number) es)
      ∙ map-mapped (renumbered_entry number) (λ e. Act (undoing e)) (λ e. Act (undoing e)) (renumbered_event number) (reverse es) (λ e. refl)

  pub completion-by : completion courses (renumbered number h) ≡ renumbered number (completion since h)
  completion-by =
      ap (λ es. map (λ e. Act (undoing e)) (reverse es) ++ flat_map (closing courses now) (active now)) backward_by
      ∙ (ap (λ xs. xs ++ flat_map (closing courses now) (active now)) (undos_by (all_backward_entries since h))
      ∙ (ap (λ xs. renumbered number (map (λ e. Act (undoing e)) (reverse (all_backward_entries since h))) ++ xs)
      (ap (flat_map (closing courses now)) (active-by number apart h) ∙ closings_by (active h) (λ i among. sym (is_active-is_in h i) ∙ is_in-among i (active h) among))
      ∙ sym (map-append (renumbered_event number) (map (λ e. Act (undoing e)) (reverse (all_backward_entries since h))) (flat_map (closing since h) (active h)))))

pub completion_is_the_same : CompletionIsTheSame
completion_is_the_same table courses h u legal goes =
    sym (completion-kept courses (h ++ as_before h u) (is_open h) (opens table courses h legal u goes) table)
    ∙ (ap (completion courses) (whole-open table courses h legal u)
    ∙ completion-by (number_in h) (numbers-apart table courses h legal) courses (courses_left courses h) (remaining h ++ u) (courses_alike table courses h legal u goes))
