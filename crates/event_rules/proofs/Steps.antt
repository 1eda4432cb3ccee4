-- By which rule a step is refused.
use Rattle.std.proofs.Common.{◌≡◌, ◌⊎◌, inl, inr, ℕ, Bool, true, false, eqb, ◌&&◌, if◌then◌else◌, List, [], ◌++◌, Some, None, sym, refl, ap, ◌∙◌, subst, append-nil}
use Rattle.std.specs.Bool.{IsTrue}
use Rattle.std.specs.List.{flat_map, list_any}
use Rattle.std.proofs.lemmas.Bool.{and_from, and_parts, eq-eqb, eqb-true, false≢true}
use Rattle.process_tree.specs.declared.entry.Entry.{Entry}
use Rattle.process_tree.specs.Recovery.{StepClass, reserved, committing, undoable, class_by_kind, forward}
use Rattle.process_tree.specs.Shape.{kind_of}
use Rattle.schedule_model.specs.declared.event.Event.{Event}
use Rattle.schedule_model.specs.declared.event.Event.TheVariants.{Act, End}
use Rattle.schedule_model.specs.Blocking.{against, against_end, against_step, against_undo, in_a_circle, in_front, with_active, with_later, with_owed, with_reserved, with_running}
use Rattle.schedule_model.specs.Conflict.{ConflictRelation, conflict}
use Rattle.schedule_model.specs.Course.{Course, shape}
use Rattle.schedule_model.specs.Histories.{active, net, net_steps}
use Rattle.schedule_model.specs.Holdings.{Holdings, active_net, all_reserved, at_rest, holders}
use Rattle.schedule_model.specs.Legal.{against_entry, class_in, is_clear, is_legal}
use Rattle.schedule_model.specs.Recovery.{owed, owed_after}
use Rattle.schedule_model.proofs.Apart.{Apart, Apart-filter, net-apart}
use Rattle.schedule_model.proofs.Clear.{FrontApart, Nothing, all_pending-at_rest, all_reserved-at_rest, all_running-at_rest, clear-from_nothing, front-none, none_in_front}
use Rattle.schedule_model.proofs.Members.{none-left, none-right, append-none}
use Rattle.schedule_rules.proofs.ListTests.{not_passed}
use Rattle.schedule_model.specs.Histories.{is_in}
use Rattle.history_judging.specs.Conflicting.{conflicts_in_front, conflicts_with_any}
use Rattle.history_judging.proofs.StandBehind.{behind_of, in_turn-behind}
use Rattle.machine_model.specs.declared.blocked.Rule.TheVariants.{A0, A1, A2, A3, A4, A5}
use Rattle.event_rules.specs.Refusing.{first_rule, rule_against, rule_or}
use Rattle.event_rules.proofs.Rules.{named, no_against, passed, some_against}

module _ (table : ConflictRelation) (courses : List Course) (h : List Event) where
  abbrev g : Holdings
  g = at_rest courses h

  -- an undo is refused by A5 alone,
  pub undo_rule : (e : Entry) → e.undo ≡ true → is_clear table courses h (Act e) ≡ false → rule_against table courses h (Act e) ≡ Some A5
  undo_rule e undo refused =
      ap first_rule same
      ∙ named A5 (with_later table g e) _
      (λ none. false≢true (sym refused ∙ clear-from_nothing (against_entry table courses h e) (subst Nothing (sym same) (record { a0 = refl; a1 = refl; a2 = refl; a3 = refl; a4 = refl; a5 = none }))))
    where
      same : against_entry table courses h e ≡ against_undo table g e
      same = ap (λ u. if u then against_undo table g e else against_step table g (class_in courses h e.process e.step) e (owed_after courses h e.process e.step)) undo

  -- and an end by A3 alone
  pub end_rule : (i : ℕ) → is_clear table courses h (End i) ≡ false → rule_against table courses h (End i) ≡ Some A3
  end_rule i refused =
      named A3 (in_front table g i) _
      (λ none. false≢true (sym refused ∙ clear-from_nothing (against_end table g i) (record { a0 = refl; a1 = refl; a2 = refl; a3 = none; a4 = refl; a5 = refl })))

  module _ (e : Entry) (is_step : e.undo ≡ false) where
    abbrev rest : List Entry
    rest = owed_after courses h e.process e.step

    step_against : (class : StepClass) → class_in courses h e.process e.step ≡ class → against_entry table courses h e ≡ against_step table g class e rest
    step_against class is =
        ap (λ u. if u then against_undo table g e else against_step table g (class_in courses h e.process e.step) e rest) is_step
        ∙ ap (λ k. against_step table g k e rest) is

    no_running : with_running table g e ≡ []
    no_running = ap (against table e) (all_running-at_rest courses h)

    -- what others owe
    pub reserved-is : with_reserved table g e ≡ against table e (flat_map (owed courses h) (active h))
    reserved-is =
        ap (λ es. against table e (all_reserved g ++ es)) (all_pending-at_rest courses h)
        ∙ (ap (against table e) (append-nil (all_reserved g)) ∙ ap (against table e) (all_reserved-at_rest courses h))

    -- a step that conflicts with what is owed is refused by A1
    by_class : (class : StepClass) → (with_reserved table g e ≡ [] → ⊥) → first_rule (against_step table g class e rest) ≡ Some A1
    by_class reserved some = passed A0 (with_running table g e) _ no_running ∙ named A1 (with_reserved table g e) _ some
    by_class undoable some = passed A0 (with_running table g e) _ no_running ∙ named A1 (with_reserved table g e) _ some
    by_class committing some = passed A0 (with_running table g e) _ no_running ∙ named A1 (with_reserved table g e) _ some

    pub reserved_rule : (with_reserved table g e ≡ [] → ⊥) → rule_against table courses h (Act e) ≡ Some A1
    reserved_rule some =
        ap first_rule (step_against (class_in courses h e.process e.step) refl) ∙ by_class (class_in courses h e.process e.step) some

    module _ (refused : is_clear table courses h (Act e) ≡ false) (apart : with_reserved table g e ≡ []) where
      something : (class : StepClass) → class_in courses h e.process e.step ≡ class → Nothing (against_step table g class e rest) → ⊥
      something class is none = false≢true (sym refused ∙ clear-from_nothing (against_entry table courses h e) (subst Nothing (sym (step_against class is)) none))

      -- one that doesn't isn't owed, so that its class is that of its kind
      pub class-is : (class : StepClass) → class_by_kind (kind_of (shape courses e.process) e.step) ≡ class → class_in courses h e.process e.step ≡ class
      class-is class kind = by (list_any (eqb e.step) (forward (shape courses e.process) (net_steps h e.process))) refl
        where
          by_owed : Bool → StepClass
          by_owed r = if r then reserved else class_by_kind (kind_of (shape courses e.process) e.step)

          by : (t : Bool) → list_any (eqb e.step) (forward (shape courses e.process) (net_steps h e.process)) ≡ t → class_in courses h e.process e.step ≡ class
          by true is =
              absurd (something reserved (ap (λ r. if r then reserved else class_by_kind (kind_of (shape courses e.process) e.step)) is)
              (record { a0 = no_running; a1 = apart; a2 = refl; a3 = refl; a4 = refl; a5 = refl }))
          by false is = ap (λ r. if r then reserved else class_by_kind (kind_of (shape courses e.process) e.step)) is ∙ kind

      -- an undoable one is refused by A2,
      pub undoable_rule : class_in courses h e.process e.step ≡ undoable → rule_against table courses h (Act e) ≡ Some A2
      undoable_rule is =
          ap first_rule (step_against undoable is)
          ∙ (passed A0 (with_running table g e) _ no_running ∙ (passed A1 (with_reserved table g e) _ apart
          ∙ named A2 (in_a_circle table g e) _
          (λ none. something undoable is (record { a0 = no_running; a1 = apart; a2 = none; a3 = refl; a4 = refl; a5 = refl }))))

      module _ (is : class_in courses h e.process e.step ≡ committing) where
        commit_first : rule_against table courses h (Act e) ≡ rule_or A3 (with_active table g e) (rule_or A4 (with_owed table g rest) None)
        commit_first =
            ap first_rule (step_against committing is) ∙ (passed A0 (with_running table g e) _ no_running ∙ passed A1 (with_reserved table g e) _ apart)

        -- a committing one by A3, where what stands of an active process is in the way, and else by A4
        pub active_rule : (with_active table g e ≡ [] → ⊥) → rule_against table courses h (Act e) ≡ Some A3
        active_rule some = commit_first ∙ named A3 (with_active table g e) _ some

        pub owed_rule : with_active table g e ≡ [] → rule_against table courses h (Act e) ≡ Some A4
        owed_rule none =
            commit_first ∙ (passed A3 (with_active table g e) _ none
            ∙ named A4 (with_owed table g rest) _
            (λ no_owed. something committing is (record { a0 = no_running; a1 = apart; a2 = refl; a3 = none; a4 = no_owed; a5 = refl })))

    -- What stands of active processes and is in the way.
    module _ (legal : IsTrue (is_legal table courses h)) where
      abbrev es : List Entry
      es = active_net g

      entries_apart : Apart es
      entries_apart = Apart-filter (λ (x : Entry). is_in x.process (holders g)) (net h) (net-apart table courses h legal)

      front-apart : conflicts_in_front table e.process es ≡ false → FrontApart table g e.process
      front-apart none x y front back own =
          not_passed (conflict table y x)
          (λ clash. false≢true (sym none
          ∙ in_turn-behind (λ x y. eqb y.process e.process && conflict table y x) es x y entries_apart front back (and_from (eqb y.process e.process) (conflict table y x) (eq-eqb y.process e.process own) clash)))

      pub with_active-none : conflicts_with_any table e es ≡ false → conflicts_in_front table e.process es ≡ false → with_active table g e ≡ []
      with_active-none stands front =
          append-none (against table e es) (in_front table g e.process) (no_against table e es stands) (front-none table g e.process (front-apart front))

      pub with_active-some : (conflicts_with_any table e es ≡ true) ⊎ (conflicts_in_front table e.process es ≡ true) → with_active table g e ≡ [] → ⊥
      with_active-some (inl stands) none = some_against table e es stands (none-left (against table e es) (in_front table g e.process) none)
      with_active-some (inr front) none =
          let b = behind_of (λ x y. eqb y.process e.process && conflict table y x) es entries_apart front in
          let parts = and_parts (eqb b.second.process e.process) (conflict table b.second b.first) b.is in
          false≢true (sym (none_in_front table g e.process (none-right (against table e es) (in_front table g e.process) none) b.first b.second b.there b.back (eqb-true b.second.process e.process parts.0)) ∙ parts.1)
