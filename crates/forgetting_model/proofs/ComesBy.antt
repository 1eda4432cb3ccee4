-- An act or an end may come by other numbers exactly where it may come.
use Rattle.std.proofs.Common.{◌≡◌, inl, inr, ℕ, Bool, true, false, eqb, ◌&&◌, if◌then◌else◌, List, [], ◌∷◌, length, map, sym, refl, ap, ◌∙◌}
use Rattle.std.specs.Prelude.{None}
use Rattle.std.specs.Bool.{IsTrue}
use Rattle.process_tree.specs.Entries.{access_of}
use Rattle.process_tree.specs.Conflicts.{same_access}
use Rattle.process_tree.specs.declared.entry.Entry.{Entry}
use Rattle.schedule_model.specs.declared.event.Event.{Event}
use Rattle.schedule_model.specs.declared.event.Event.TheVariants.{Act, End}
use Rattle.schedule_model.specs.Course.{Course, access_at, course}
use Rattle.schedule_model.specs.Conflict.{ConflictRelation}
use Rattle.schedule_model.specs.Histories.{active, is_active, net}
use Rattle.schedule_model.specs.Holdings.{at_rest, hold_at_rest}
use Rattle.schedule_model.specs.Blocking.{Clashes, against_end, against_step, against_undo, all_clashes}
use Rattle.schedule_model.specs.Legal.{against_entry, class_in, is_clear, may_come}
use Rattle.schedule_model.specs.OwnOrder.{goes_on, is_at_end, is_of_last, keeps_order}
use Rattle.schedule_model.specs.Recovery.{backward_entries, owed, owed_after}
use Rattle.schedule_model.proofs.Active.{is_active-is_in}
use Rattle.schedule_model.proofs.Members.{Among, is_in-among}
use Rattle.forgetting_model.specs.Remaining.{renumbered, renumbered_entry}
use Rattle.forgetting_model.proofs.Mapped.{length-mapped}
use Rattle.forgetting_model.proofs.HeldBy.{against_end-by, against_step-by, against_undo-by, all_clashes-by, clash_by, clashes_by, hold_by, holdings_by}
use Rattle.forgetting_model.proofs.Renumbered.{AreApart, access-by, active-by, at_end-by, backward-by, class-by, goes_on-by, is_active-by, is_of_last-by, net-by, owed-by, owed_after-by}

module _ (number : ℕ → ℕ) (apart : AreApart number) (courses since : List Course) (h : List Event) where
  -- each active process has its course by the other number
  abbrev pub SameCourses : Type 0
  SameCourses = (i : ℕ) → IsTrue (is_active h i) → course courses (number i) ≡ course since i

  module _ (same : SameCourses) where
    abbrev now : List Event
    now = renumbered number h

    hold-by : (i : ℕ) → IsTrue (is_active h i) → hold_at_rest courses now (number i) ≡ hold_by number (hold_at_rest since h i)
    hold-by i goes =
        ap (λ es. record { process = number i; running = None; reserved = es; pending = []; backward_entries = backward_entries courses now (number i) }) (owed-by number apart courses since h i (same i goes))
        ∙ ap (λ es. record { process = number i; running = None; reserved = map (renumbered_entry number) (owed since h i); pending = []; backward_entries = es }) (backward-by number apart courses since h i (same i goes))

    holds-by : (is : List ℕ) → ((i : ℕ) → Among i is → IsTrue (is_active h i)) → map (hold_at_rest courses now) (map number is) ≡ map (hold_by number) (map (hold_at_rest since h) is)
    holds-by [] active = refl
    holds-by (i ∷ is) active =
        ap (λ o. o ∷ map (hold_at_rest courses now) (map number is)) (hold-by i (active i (inl refl)))
        ∙ ap (λ os. hold_by number (hold_at_rest since h i) ∷ os) (holds-by is (λ k among. active k (inr among)))

    pub at_rest-by : at_rest courses (renumbered number h) ≡ holdings_by number (at_rest since h)
    at_rest-by =
        ap (λ es. record { net = es; holds = map (hold_at_rest courses now) (active now) }) (net-by number apart h)
        ∙ ap (λ os. record { net = map (renumbered_entry number) (net h); holds = os })
        (ap (map (hold_at_rest courses now)) (active-by number apart h)
        ∙ holds-by (active h) (λ i among. sym (is_active-is_in h i) ∙ is_in-among i (active h) among))

    clear-by : (c d : Clashes) → c ≡ clashes_by number d → eqb (length (all_clashes c)) 0 ≡ eqb (length (all_clashes d)) 0
    clear-by c d is =
        ap (λ c. eqb (length (all_clashes c)) 0) is
        ∙ (ap (λ cs. eqb (length cs) 0) (all_clashes-by number d) ∙ ap (λ n. eqb n 0) (length-mapped (clash_by number) (all_clashes d)))

    step_by : (table : ConflictRelation) (e : Entry) → IsTrue (is_active h e.process)
        → against_step table (at_rest courses now) (class_in courses now (number e.process) e.step) (renumbered_entry number e) (owed_after courses now (number e.process) e.step)
        ≡ clashes_by number (against_step table (at_rest since h) (class_in since h e.process e.step) e (owed_after since h e.process e.step))
    step_by table e goes =
        ap (λ g. against_step table g (class_in courses now (number e.process) e.step) (renumbered_entry number e) (owed_after courses now (number e.process) e.step)) at_rest-by
        ∙ (ap (λ c. against_step table (holdings_by number (at_rest since h)) c (renumbered_entry number e) (owed_after courses now (number e.process) e.step)) (class-by number apart courses since h e.process (same e.process goes) e.step)
        ∙ (ap (against_step table (holdings_by number (at_rest since h)) (class_in since h e.process e.step) (renumbered_entry number e)) (owed_after-by number apart courses since h e.process (same e.process goes) e.step)
        ∙ against_step-by number apart table (at_rest since h) (class_in since h e.process e.step) e (owed_after since h e.process e.step)))

    undo_by : (table : ConflictRelation) (e : Entry) → against_undo table (at_rest courses now) (renumbered_entry number e) ≡ clashes_by number (against_undo table (at_rest since h) e)
    undo_by table e = ap (λ g. against_undo table g (renumbered_entry number e)) at_rest-by ∙ against_undo-by number apart table (at_rest since h) e

    entry_by : (table : ConflictRelation) (e : Entry) → IsTrue (is_active h e.process) → (u : Bool)
        → (if u then against_undo table (at_rest courses now) (renumbered_entry number e) else against_step table (at_rest courses now) (class_in courses now (number e.process) e.step) (renumbered_entry number e) (owed_after courses now (number e.process) e.step))
        ≡ clashes_by number (if u then against_undo table (at_rest since h) e else against_step table (at_rest since h) (class_in since h e.process e.step) e (owed_after since h e.process e.step))
    entry_by table e goes true = undo_by table e
    entry_by table e goes false = step_by table e goes

    clear_act-by : (table : ConflictRelation) (e : Entry) → IsTrue (is_active h e.process) → is_clear table courses now (Act (renumbered_entry number e)) ≡ is_clear table since h (Act e)
    clear_act-by table e goes = clear-by (against_entry table courses now (renumbered_entry number e)) (against_entry table since h e) (entry_by table e goes e.undo)

    clear_end-by : (table : ConflictRelation) (i : ℕ) → is_clear table courses now (End (number i)) ≡ is_clear table since h (End i)
    clear_end-by table i =
        clear-by (against_end table (at_rest courses now) (number i)) (against_end table (at_rest since h) i)
        (ap (λ g. against_end table g (number i)) at_rest-by ∙ against_end-by number apart table (at_rest since h) i)

    order_act-by : (e : Entry) → IsTrue (is_active h e.process) → keeps_order courses now (Act (renumbered_entry number e)) ≡ keeps_order since h (Act e)
    order_act-by e goes =
        let same' = same e.process goes in
        ap (λ t. t && same_access (access_of e) (access_at courses (number e.process) e.step) && (if e.undo then is_of_last (backward_entries courses now (number e.process)) (renumbered_entry number e) else goes_on courses now (number e.process) e.step)) (is_active-by number apart h e.process)
        ∙ (ap (λ a. is_active h e.process && same_access (access_of e) a && (if e.undo then is_of_last (backward_entries courses now (number e.process)) (renumbered_entry number e) else goes_on courses now (number e.process) e.step)) (access-by number apart courses since h e.process same' e.step)
        ∙ (ap (λ t. is_active h e.process && same_access (access_of e) (access_at since e.process e.step) && (if e.undo then t else goes_on courses now (number e.process) e.step))
        (ap (λ es. is_of_last es (renumbered_entry number e)) (backward-by number apart courses since h e.process same') ∙ is_of_last-by number apart (backward_entries since h e.process) e)
        ∙ ap (λ t. is_active h e.process && same_access (access_of e) (access_at since e.process e.step) && (if e.undo then is_of_last (backward_entries since h e.process) e else t))
        (goes_on-by number apart courses since h e.process same' e.step)))

    order_end-by : (i : ℕ) → IsTrue (is_active h i) → keeps_order courses now (End (number i)) ≡ keeps_order since h (End i)
    order_end-by i goes =
        ap (λ t. t && is_at_end courses now (number i)) (is_active-by number apart h i) ∙ ap (λ t. is_active h i && t) (at_end-by number apart courses since h i (same i goes))

    -- where the process isn't active, nothing of it may come by either number
    act_by : (table : ConflictRelation) (e : Entry) (t : Bool) → is_active h e.process ≡ t → may_come table courses now (Act (renumbered_entry number e)) ≡ may_come table since h (Act e)
    act_by table e true goes =
        ap (λ t. t && is_clear table courses now (Act (renumbered_entry number e))) (order_act-by e goes) ∙ ap (λ t. keeps_order since h (Act e) && t) (clear_act-by table e goes)
    act_by table e false out =
        ap (λ t. (t && same_access (access_of e) (access_at courses (number e.process) e.step) && (if e.undo then is_of_last (backward_entries courses now (number e.process)) (renumbered_entry number e) else goes_on courses now (number e.process) e.step)) && is_clear table courses now (Act (renumbered_entry number e))) (is_active-by number apart h e.process ∙ out)
        ∙ sym (ap (λ t. (t && same_access (access_of e) (access_at since e.process e.step) && (if e.undo then is_of_last (backward_entries since h e.process) e else goes_on since h e.process e.step)) && is_clear table since h (Act e)) out)

    end_by : (table : ConflictRelation) (i : ℕ) (t : Bool) → is_active h i ≡ t → may_come table courses now (End (number i)) ≡ may_come table since h (End i)
    end_by table i true goes =
        ap (λ t. t && is_clear table courses now (End (number i))) (order_end-by i goes) ∙ ap (λ t. keeps_order since h (End i) && t) (clear_end-by table i)
    end_by table i false out =
        ap (λ t. (t && is_at_end courses now (number i)) && is_clear table courses now (End (number i))) (is_active-by number apart h i ∙ out)
        ∙ sym (ap (λ t. (t && is_at_end since h i) && is_clear table since h (End i)) out)

    pub act_comes-by : (table : ConflictRelation) (e : Entry) → may_come table courses (renumbered number h) (Act (renumbered_entry number e)) ≡ may_come table since h (Act e)
    act_comes-by table e = act_by table e (is_active h e.process) refl

    pub end_comes-by : (table : ConflictRelation) (i : ℕ) → may_come table courses (renumbered number h) (End (number i)) ≡ may_come table since h (End i)
    end_comes-by table i = end_by table i (is_active h i) refl
