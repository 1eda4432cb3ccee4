-- An event may come after a legal history exactly where the tables say so.
use Rattle.std.proofs.Common.{◌≡◌, ℕ, ◌+◌, Bool, true, false, not, eqb, leb, ltb, ◌&&◌, if◌then◌else◌, List, length, sym, refl, ap, ◌∙◌}
use Rattle.std.specs.Bool.{IsTrue}
use Rattle.std.specs.List.{list_all}
use Rattle.std.proofs.Math.Bool.{and-true}
use Rattle.std.proofs.lemmas.Bool.{and_parts, not-true}
use Rattle.process_tree.proofs.Entries.{same_access-true}
use Rattle.process_tree.specs.Entries.{access_of}
use Rattle.process_tree.specs.Conflicts.{same_access}
use Rattle.process_tree.specs.declared.entry.Entry.{Entry}
use Rattle.process_tree.specs.declared.plan.Plan.{Plan}
use Rattle.process_tree.specs.Laws.{HasClass}
use Rattle.process_tree.specs.Shape.{goes_on_to, is_end}
use Rattle.process_tree.proofs.TreeLaws.{next_steps_have_a_class}
use Rattle.schedule_model.specs.declared.event.Event.{Event}
use Rattle.schedule_model.specs.declared.event.Event.TheVariants.{Start, Act, End}
use Rattle.schedule_model.specs.Blocking.{Clashes, against}
use Rattle.schedule_model.specs.Conflict.{ConflictRelation, IsSymmetric, conflict}
use Rattle.schedule_model.specs.Course.{Course, course, courses_of, shape, access_at}
use Rattle.schedule_model.specs.Histories.{done_steps, is_active, net, net_steps, starts}
use Rattle.schedule_model.specs.Holdings.{active_net, at_rest, behind}
use Rattle.schedule_model.specs.Laws.{AreGood}
use Rattle.schedule_model.specs.Legal.{is_clear, is_legal, may_come}
use Rattle.schedule_model.specs.OwnOrder.{goes_on, is_at_end, is_of_last}
use Rattle.schedule_model.specs.Recovery.{backward_entries}
use Rattle.schedule_model.proofs.Clear.{against-none, clear-end, clear-undo, end-clear, none_against, undo-clear}
use Rattle.schedule_model.proofs.GoodPlans.{good_if_goes_on}
use Rattle.schedule_model.proofs.Members.{not_any}
use Rattle.schedule_model.proofs.StandingLaws.{aside_undo}
use Rattle.history_judging.specs.Conflicting.{conflicts_with_any, conflicts_in_front}
use Rattle.history_judging.specs.Judging.{comes, end_comes, entry_comes, step_goes_on, step_is_clear, steps_among, undo_comes}
use Rattle.history_judging.specs.Keeping.{IsKept, Tables, is_active_in, row_of}
use Rattle.schedule_rules.specs.Recovering.{backward_among}
use Rattle.history_judging.proofs.Apartness.{apart-front, front-apart}
use Rattle.history_judging.proofs.Tables.{active-is, started-within, net-is, own-backward, own-steps}
use Rattle.schedule_rules.proofs.ListTests.{both_ways, none_of_all}
use Rattle.history_judging.proofs.ClearSteps.{step-clear}

-- a test that counts only behind another
pub behind_test : (a b c d : Bool) → a ≡ b → (b ≡ true → c ≡ d) → (a && c) ≡ (b && d)
behind_test true true c d same rest = rest refl
behind_test true false c d same rest = absurd (cc)
behind_test false true c d same rest = absurd (cc)
behind_test false false c d same rest = refl

module _ (table : ConflictRelation) (symmetric : IsSymmetric table) (plans : List Plan) (good : AreGood plans) (h : List Event) (t : Tables)
    (legal : IsTrue (is_legal table (courses_of plans) h)) (kept : IsKept (courses_of plans) h t) where
  abbrev cs : List Course
  cs = courses_of plans

  module _ (e : Entry) (goes : IsTrue (is_active h e.process)) where
    abbrev i : ℕ
    i = e.process

    abbrev b : ℕ
    b = e.step

    -- nothing stands against an undo, either, where nothing behind it does among the active
    module _ (undo : e.undo ≡ true) (op : access_of e ≡ access_at cs i b) where
      aside : against table e (behind e (active_net (at_rest cs h))) ≡ against table e (behind e (net h))
      aside = ap (λ (c : Clashes). c.a5) (aside_undo table plans h symmetric good legal e goes op)

      undo-is : not (conflicts_with_any table e (behind e t.net)) ≡ is_clear table cs h (Act e)
      undo-is =
          ap (λ es. not (conflicts_with_any table e (behind e es))) (net-is table cs h t legal kept)
          ∙ both_ways (not (conflicts_with_any table e (behind e (active_net (at_rest cs h))))) (is_clear table cs h (Act e))
          (λ is.
          let none = not-true (conflicts_with_any table e (behind e (active_net (at_rest cs h)))) is in
          clear-undo table cs h e undo
          (none_against table e (behind e (net h)) (sym aside ∙ against-none table e (behind e (active_net (at_rest cs h))) (λ x there. none_of_all (conflict table e) x (behind e (active_net (at_rest cs h))) none there))))
          (λ is.
          let apart = none_against table e (behind e (active_net (at_rest cs h))) (aside ∙ against-none table e (behind e (net h)) (undo-clear table cs h e undo is)) in
          ap not (not_any (conflict table e) (behind e (active_net (at_rest cs h))) apart))

      undo-comes : undo_comes table (course cs i) t e ≡ (is_of_last (backward_entries cs h i) e && is_clear table cs h (Act e))
      undo-comes =
          behind_test (is_of_last (backward_among (course cs i) t.net i) e) (is_of_last (backward_entries cs h i) e) (not (conflicts_with_any table e (behind e t.net))) (is_clear table cs h (Act e))
          (ap (λ es. is_of_last es e) (own-backward table cs h t legal kept i goes)) (λ _. undo-is)

    -- a step goes on exactly where the tables say so
    step-goes : step_goes_on (course cs i) t e ≡ goes_on cs h i b
    step-goes =
        let bounds = started-within table cs h t legal kept i goes in
        ap (λ w. goes_on_to (shape cs i) w b && leb (row_of t.processes i).bound b) (own-steps table cs h t legal kept i goes)
        ∙ ap (λ t'. goes_on_to (shape cs i) (net_steps h i) b && t') ((kept.rows i bounds.0 bounds.1).bound b)

    -- what the class of a step that goes on says
    class_facts : goes_on cs h i b ≡ true → HasClass (shape cs i) (net_steps h i) b
    class_facts on =
        let along = (and_parts (goes_on_to (shape cs i) (net_steps h i) b) (list_all (λ d. ltb d b) (done_steps h i)) on).0 in
        let plan = good_if_goes_on plans i (net_steps h i) b good along in
        next_steps_have_a_class (shape cs i) plan.tree plan.well_formed (net_steps h i) b along

    -- an entry of an active process with the plan's operation
    entry_by : (u : Bool) → e.undo ≡ u → access_of e ≡ access_at cs i b
        → (if u then undo_comes table (course cs i) t e else (step_goes_on (course cs i) t e && step_is_clear table (course cs i) t e))
        ≡ ((if u then is_of_last (backward_entries cs h i) e else goes_on cs h i b) && is_clear table cs h (Act e))
    entry_by true undo op = undo-comes undo op
    entry_by false is_step op = behind_test (step_goes_on (course cs i) t e) (goes_on cs h i b) (step_is_clear table (course cs i) t e) (is_clear table cs h (Act e)) step-goes (λ on. step-clear table cs h t legal kept e goes is_step (class_facts on))

    entry-comes : entry_comes table (course cs i) t e
        ≡ (same_access (access_of e) (access_at cs i b) && ((if e.undo then is_of_last (backward_entries cs h i) e else goes_on cs h i b) && is_clear table cs h (Act e)))
    entry-comes = behind_test (same_access (access_of e) (access_at cs i b)) (same_access (access_of e) (access_at cs i b)) _ _ refl (λ same. entry_by e.undo refl (same_access-true (access_of e) (access_at cs i b) same))

  and_twice : (a o w c : Bool) → (a && (o && (w && c))) ≡ (((a && o) && w) && c)
  and_twice true true w c = refl
  and_twice true false w c = refl
  and_twice false o w c = refl

  end-is : (i : ℕ) → IsTrue (is_active h i) → end_comes table (course cs i) t i ≡ (is_at_end cs h i && is_clear table cs h (End i))
  end-is i goes =
      behind_test (is_end (shape cs i) (steps_among t.net i)) (is_at_end cs h i) (not (conflicts_in_front table i t.net)) (is_clear table cs h (End i))
      (ap (is_end (shape cs i)) (own-steps table cs h t legal kept i goes))
      (λ _. both_ways (not (conflicts_in_front table i t.net)) (is_clear table cs h (End i))
      (λ is. clear-end table cs h i (front-apart table cs h t legal kept i (not-true (conflicts_in_front table i t.net) is)))
      (λ is. ap not (apart-front table cs h t legal kept i (end-clear table cs h i is))))

  -- an event may come exactly where the tables say so
  pub comes-is : (event : Event) → comes table cs t event ≡ may_come table cs h event
  comes-is (Start k) = ap (λ n. eqb k (n + 1)) kept.started ∙ sym (and-true (eqb k (length (starts h) + 1)))
  comes-is (Act e) =
      behind_test (is_active_in t.processes e.process) (is_active h e.process) _ _ (active-is table cs h t legal kept e.process) (λ goes. entry-comes e goes)
      ∙ and_twice (is_active h e.process) (same_access (access_of e) (access_at cs e.process e.step)) (if e.undo then is_of_last (backward_entries cs h e.process) e else goes_on cs h e.process e.step) (is_clear table cs h (Act e))
  comes-is (End k) =
      behind_test (is_active_in t.processes k) (is_active h k) (end_comes table (course cs k) t k) (is_at_end cs h k && is_clear table cs h (End k)) (active-is table cs h t legal kept k) (λ goes. end-is k goes)
      ∙ and_assoc (is_active h k) (is_at_end cs h k) (is_clear table cs h (End k))
    where
      and_assoc : (a b c : Bool) → (a && (b && c)) ≡ ((a && b) && c)
      and_assoc true b c = refl
      and_assoc false b c = refl
