-- Nothing stands against a step of a legal history exactly where the tables say so.
use Rattle.std.proofs.Common.{◌≡◌, ◌⊎◌, inl, inr, ⊎_elim, ℕ, Bool, true, false, not, ◌&&◌, if◌then◌else◌, List, [], ◌∷◌, ◌++◌, sym, refl, ap, ◌∙◌, subst}
use Rattle.std.specs.Bool.{IsTrue}
use Rattle.std.specs.List.{list_any}
use Rattle.std.proofs.lemmas.Bool.{and_from, and_parts, false≢true, not-true}
use Rattle.process_tree.specs.declared.entry.Entry.{Entry}
use Rattle.process_tree.specs.declared.step.StepKind.{StepKind}
use Rattle.process_tree.specs.declared.step.StepKind.TheVariants.{C, P, R, Cr}
use Rattle.process_tree.specs.Laws.{HasClass}
use Rattle.process_tree.specs.Recovery.{reserved, committing, undoable, class_by_kind, forward}
use Rattle.process_tree.specs.Shape.{commits, kind_of}
use Rattle.schedule_model.specs.declared.event.Event.{Event}
use Rattle.schedule_model.specs.declared.event.Event.TheVariants.{Act}
use Rattle.schedule_model.specs.Conflict.{ConflictRelation}
use Rattle.schedule_model.specs.Course.{Course, course, shape}
use Rattle.schedule_model.specs.Histories.{is_active, net_steps, same_step}
use Rattle.schedule_model.specs.Legal.{class_in, is_clear, is_legal}
use Rattle.schedule_model.specs.Recovery.{owed_after}
use Rattle.schedule_model.proofs.Clear.{clear-committing, clear-reserved, clear-undoable, NetApart, OwedApart, RestApart, committing-clear, reserved-clear, undoable-clear}
use Rattle.history_judging.specs.Conflicting.{any_conflicts, closes_circle, conflicts_with_any, conflicts_in_front}
use Rattle.history_judging.specs.Judging.{step_is_clear, undoable_is_clear}
use Rattle.history_judging.specs.Keeping.{IsKept, Tables}
use Rattle.schedule_rules.specs.Recovering.{owed_by}
use Rattle.history_judging.proofs.Apartness.{apart-front, apart-owed, apart-rest, front-apart, owed-apart, rest-apart}
use Rattle.history_judging.proofs.CircleApart.{apart-circle, circle-apart}
use Rattle.history_judging.proofs.Tables.{own-steps, owed-class}
use Rattle.schedule_rules.proofs.ListTests.{both_ways}

-- a step that isn't owed is committing or can be undone
class_if_free : (k : StepKind) → (class_by_kind k ≡ committing) ⊎ (class_by_kind k ≡ undoable)
class_if_free C = inr refl
class_if_free P = inl refl
class_if_free R = inl refl
class_if_free Cr = inr refl

module _ (table : ConflictRelation) (courses : List Course) (h : List Event) (t : Tables) (legal : IsTrue (is_legal table courses h)) (kept : IsKept courses h t) where
  module _ (e : Entry) (goes : IsTrue (is_active h e.process)) where
    abbrev i : ℕ
    i = e.process

    abbrev b : ℕ
    b = e.step

    -- the class of the step, by the tables
    class-reserved : list_any (same_step e) t.owed ≡ true → class_in courses h i b ≡ reserved
    class-reserved is =
        ap (λ r. if r then reserved else class_by_kind (kind_of (shape courses i) b)) (sym (owed-class table courses h t legal kept e goes) ∙ is)

    class-other : list_any (same_step e) t.owed ≡ false → class_in courses h i b ≡ class_by_kind (kind_of (shape courses i) b)
    class-other is =
        ap (λ r. if r then reserved else class_by_kind (kind_of (shape courses i) b)) (sym (owed-class table courses h t legal kept e goes) ∙ is)

    same_rest : owed_by (course courses i) i (forward (shape courses i) (net_steps h i ++ b ∷ [])) ≡ owed_after courses h i b
    same_rest = refl

    module _ (is_step : e.undo ≡ false) (facts : HasClass (shape courses i) (net_steps h i) b) where
      reserved-is : class_in courses h i b ≡ reserved → not (conflicts_with_any table e t.owed) ≡ is_clear table courses h (Act e)
      reserved-is class =
          both_ways (not (conflicts_with_any table e t.owed)) (is_clear table courses h (Act e))
          (λ is. clear-reserved table courses h e is_step class (owed-apart table courses h t legal kept e (not-true (conflicts_with_any table e t.owed) is)))
          (λ is. ap not (apart-owed table courses h t legal kept e (reserved-clear table courses h e is_step class is)))

      undoable-is : class_in courses h i b ≡ undoable → undoable_is_clear table t e ≡ is_clear table courses h (Act e)
      undoable-is class =
          both_ways (undoable_is_clear table t e) (is_clear table courses h (Act e))
          (λ is.
          let parts = and_parts (not (conflicts_with_any table e t.owed)) (not (closes_circle table t.net e)) is in
          clear-undoable table courses h e is_step class (owed-apart table courses h t legal kept e (not-true (conflicts_with_any table e t.owed) parts.0)) (circle-apart table courses h t legal kept e (not-true (closes_circle table t.net e) parts.1)))
          (λ is.
          let parts = undoable-clear table courses h e is_step class is in
          and_from (not (conflicts_with_any table e t.owed)) (not (closes_circle table t.net e)) (ap not (apart-owed table courses h t legal kept e parts.0)) (ap not (apart-circle table courses h t legal kept e parts.1)))

      -- what the step would have its process hold: itself, and what is owed then
      abbrev held : List Entry
      held = e ∷ owed_after courses h i b

      commit-is : class_in courses h i b ≡ committing → (not (any_conflicts table held (t.net ++ t.owed)) && not (conflicts_in_front table i t.net)) ≡ is_clear table courses h (Act e)
      commit-is class =
          both_ways (not (any_conflicts table held (t.net ++ t.owed)) && not (conflicts_in_front table i t.net)) (is_clear table courses h (Act e))
          (λ is.
          let parts = and_parts (not (any_conflicts table held (t.net ++ t.owed))) (not (conflicts_in_front table i t.net)) is in
          let apart = rest-apart table courses h t legal kept held (not-true (any_conflicts table held (t.net ++ t.owed)) parts.0) in
          let own = apart e (inl refl) in
          clear-committing table courses h e is_step class own.1 own.0 (front-apart table courses h t legal kept i (not-true (conflicts_in_front table i t.net) parts.1)) (λ s there. apart s (inr there)))
          (λ is.
          let parts = committing-clear table courses h e is_step class is in
          and_from (not (any_conflicts table held (t.net ++ t.owed))) (not (conflicts_in_front table i t.net))
          (ap not (apart-rest table courses h t legal kept held (all_of parts.1 parts.0 parts.3)))
          (ap not (apart-front table courses h t legal kept i parts.2)))
        where
          all_of : NetApart table courses h e → OwedApart table courses h e → RestApart table courses h (owed_after courses h i b) → RestApart table courses h held
          all_of net' owed' rest' s (inl here) = subst (λ x. NetApart table courses h x × OwedApart table courses h x) here (net', owed')
          all_of net' owed' rest' s (inr there) = rest' s there

      by_commit : (c : Bool) → commits (shape courses i) b ≡ c → list_any (same_step e) t.owed ≡ false
          → (if c then (not (any_conflicts table held (t.net ++ t.owed)) && not (conflicts_in_front table i t.net)) else undoable_is_clear table t e) ≡ is_clear table courses h (Act e)
      by_commit true is other =
          ⊎_elim
          (λ class. commit-is (class-other other ∙ class))
          (λ class. absurd (false≢true (sym (facts.undoable_stays (class-other other ∙ class)) ∙ is)))
          (class_if_free (kind_of (shape courses i) b))
      by_commit false is other = undoable-is (facts.undoable_if_stays is)

      by_owed : (r : Bool) → list_any (same_step e) t.owed ≡ r
          → (if r then not (conflicts_with_any table e t.owed) else (if commits (shape courses i) b then (not (any_conflicts table held (t.net ++ t.owed)) && not (conflicts_in_front table i t.net)) else undoable_is_clear table t e))
          ≡ is_clear table courses h (Act e)
      by_owed true is = reserved-is (class-reserved is)
      by_owed false is = by_commit (commits (shape courses i) b) refl is

      -- nothing stands against the step exactly where the tables say so
      pub step-clear : step_is_clear table (course courses i) t e ≡ is_clear table courses h (Act e)
      step-clear =
          ap (λ w. if list_any (same_step e) t.owed then not (conflicts_with_any table e t.owed)
          else (if commits (shape courses i) b
          then (not (any_conflicts table (e ∷ owed_by (course courses i) i (forward (shape courses i) (w ++ b ∷ []))) (t.net ++ t.owed)) && not (conflicts_in_front table i t.net))
          else undoable_is_clear table t e)) (own-steps table courses h t legal kept i goes)
          ∙ by_owed (list_any (same_step e) t.owed) refl
