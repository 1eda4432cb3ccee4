-- Before what an active process can't undo any more stands no net entry of another active process that conflicts.
use Rattle.std.proofs.Common.{◌≡◌, inl, ⊎_elim, ℕ, Bool, true, false, eqb, ◌&&◌, ◌||◌, List, [], ◌∷◌, ◌++◌, sym, refl, ap, ◌∙◌, subst}
use Rattle.std.specs.Bool.{IsTrue}
use Rattle.std.proofs.lemmas.Bool.{and_parts, eqb-true, or_left, or_right, false≢true}
use Rattle.std.proofs.lemmas.List.Folds.{list_any-append}
use Rattle.process_tree.specs.declared.entry.Entry.{Entry}
use Rattle.process_tree.specs.declared.plan.Plan.{Plan}
use Rattle.process_tree.specs.Recovery.{StepClass, reserved, committing, undoable}
use Rattle.schedule_model.specs.declared.event.Event.{Event}
use Rattle.schedule_model.specs.declared.event.Event.TheVariants.{Start, Act, End}
use Rattle.schedule_model.specs.Course.{Course, courses_of}
use Rattle.schedule_model.specs.Conflict.{ConflictRelation, IsSymmetric, conflict}
use Rattle.schedule_model.specs.Histories.{is_active, net, same_step}
use Rattle.schedule_model.specs.Recovery.{backward_entries, owed}
use Rattle.schedule_model.specs.Holdings.{behind}
use Rattle.schedule_model.specs.Legal.{class_in, may_come, is_legal}
use Rattle.schedule_model.specs.Laws.{AreGood}
use Rattle.schedule_model.proofs.Induction.{by_legal}
use Rattle.schedule_model.proofs.Members.{Among}
use Rattle.schedule_model.proofs.Behind.{has_step, among_behind, same_step-itself}
use Rattle.schedule_model.proofs.Conflicts.{conflict-flipped}
use Rattle.schedule_model.proofs.Snoc.{net-start, net-end, net_of-other, net_of-start, net_of-end, backward_entries-by_net, is_active-do}
use Rattle.schedule_model.proofs.Acting.{clear_of, act_active}
use Rattle.schedule_model.proofs.Undoing.{undoes}
use Rattle.schedule_model.proofs.Clear.{committing-clear, in_active_net}
use Rattle.schedule_model.proofs.Started.{net-started, active-before_start, active-before_end}
use Rattle.schedule_model.proofs.OwedFree.{owed-free, is_doing, step-facts}
use Rattle.schedule_model.proofs.Orders.{behind-undo, behind-do, behind-active}
use Rattle.schedule_model.proofs.NewSteps.{step-is_new}

module _ (table : ConflictRelation) (symmetric : IsSymmetric table) (plans : List Plan) (good : AreGood plans) where
  abbrev cs : List Course
  cs = courses_of plans

  -- e can't be undone
  abbrev pub IsFixed : List Event → Entry → Type 0
  IsFixed h e = has_step e (backward_entries cs h e.process) ≡ false

  abbrev pub FixedFree : List Event → Type 0
  FixedFree h = (x e : Entry) → Among x (net h) → IsTrue (is_active h x.process) → Among e (net h) → IsTrue (is_active h e.process) → IsFixed h e
      → Among e (behind x (net h)) → conflict table x e ≡ false

  module _ (h : List Event) (legal : IsTrue (is_legal table cs h)) (free : FixedFree h) where
    fixed-start : (k : ℕ) → FixedFree (h ++ Start k ∷ [])
    fixed-start k x e there goes here acts fixed back =
        let x_in = subst (Among x) (net-start h k) there in
        let e_in = subst (Among e) (net-start h k) here in
        free x e x_in (active-before_start h k x.process (net-started table cs h legal x x_in) goes) e_in (active-before_start h k e.process (net-started table cs h legal e e_in) acts)
        (sym (ap (has_step e) (backward_entries-by_net cs (h ++ Start k ∷ []) h e.process (net_of-start h k e.process))) ∙ fixed)
        (subst (λ es. Among e (behind x es)) (net-start h k) back)

    fixed-end : (k : ℕ) → FixedFree (h ++ End k ∷ [])
    fixed-end k x e there goes here acts fixed back =
        free x e (subst (Among x) (net-end h k) there) (active-before_end h k x.process goes) (subst (Among e) (net-end h k) here) (active-before_end h k e.process acts)
        (sym (ap (has_step e) (backward_entries-by_net cs (h ++ End k ∷ []) h e.process (net_of-end h k e.process))) ∙ fixed)
        (subst (λ es. Among e (behind x es)) (net-end h k) back)

    module _ (a : Entry) (may : IsTrue (may_come table cs h (Act a))) where
      abbrev after : List Event
      after = h ++ Act a ∷ []

      was_active : (i : ℕ) → IsTrue (is_active after i) → IsTrue (is_active h i)
      was_active i goes = sym (is_active-do h a i) ∙ goes

      -- what was fixed of another process still is, and the other way round
      fixed-other : (e : Entry) → eqb a.process e.process ≡ false → IsFixed after e → IsFixed h e
      fixed-other e other fixed = sym (ap (has_step e) (backward_entries-by_net cs after h e.process (net_of-other h a e.process other))) ∙ fixed

      -- An undo.

      step_of_last : (last e : Entry) → same_step last a ≡ true → same_step e a ≡ false → same_step e last ≡ false
      step_of_last last e same other =
          let parts = and_parts (eqb last.process a.process) (eqb last.step a.step) same in
          ap (λ p. eqb e.process p && eqb e.step last.step) (eqb-true last.process a.process parts.0)
          ∙ (ap (λ s. eqb e.process a.process && eqb e.step s) (eqb-true last.step a.step parts.1) ∙ other)

      neither : (p q : Bool) → p ≡ false → q ≡ false → (p || (q || false)) ≡ false
      neither p q one two = ap (λ t. t || (q || false)) one ∙ ap (λ t. t || false) two

      fixed-undone : (e : Entry) → a.undo ≡ true → same_step e a ≡ false → IsFixed after e → (own : Bool) → eqb a.process e.process ≡ own → IsFixed h e
      fixed-undone e undo other fixed false away = fixed-other e away fixed
      fixed-undone e undo other fixed true own =
          let same = eqb-true a.process e.process own in
          let taken = undoes table cs h a legal undo may in
          let lost : backward_entries cs h e.process ≡ backward_entries cs after e.process ++ taken.last ∷ [] = subst (λ k. backward_entries cs h k ≡ backward_entries cs after k ++ taken.last ∷ []) same taken.backward_entries in
          ap (has_step e) lost ∙ (list_any-append (same_step e) (backward_entries cs after e.process) (taken.last ∷ [])
          ∙ neither (has_step e (backward_entries cs after e.process)) (same_step e taken.last) fixed (step_of_last taken.last e taken.same other))

      fixed-undo : a.undo ≡ true → FixedFree after
      fixed-undo undo x e there goes here acts fixed back =
          let found = behind-undo h a x e undo there back in
          free x e found.0 (was_active x.process goes) (among_behind x e (net h) found.1) (was_active e.process acts)
          (fixed-undone e undo found.2 fixed (eqb a.process e.process) refl) found.1

      -- A step.

      module _ (is_step : a.undo ≡ false)
          -- what stood behind x, of the process of the step
          (own-before : (x e : Entry) → Among x (net h) → IsTrue (is_active h x.process) → Among e (net h) → a.process ≡ e.process → IsFixed after e → Among e (behind x (net h)) → conflict table x e ≡ false)
          -- the step itself
          (own-now : (x : Entry) → Among x (net h) → IsTrue (is_active h x.process) → IsFixed after a → conflict table x a ≡ false) where
        fixed-before : (x e : Entry) → Among x (net h) → IsTrue (is_active h x.process) → IsTrue (is_active h e.process) → IsFixed after e → Among e (behind x (net h))
            → (own : Bool) → eqb a.process e.process ≡ own → conflict table x e ≡ false
        fixed-before x e there goes acts fixed back true own = own-before x e there goes (among_behind x e (net h) back) (eqb-true a.process e.process own) fixed back
        fixed-before x e there goes acts fixed back false away = free x e there goes (among_behind x e (net h) back) acts (fixed-other e away fixed) back

        fixed-step : FixedFree after
        fixed-step x e there goes here acts fixed back =
            let found = behind-do h a x e is_step (step-is_new table cs h legal a is_step may) there back in
            ⊎_elim
            (λ before. fixed-before x e found.0 (was_active x.process goes) (was_active e.process acts) fixed before (eqb a.process e.process) refl)
            (λ now. subst (λ f. conflict table x f ≡ false) now (own-now x found.0 (was_active x.process goes) (subst (λ f. IsFixed after f) (sym now) fixed)))
            found.1

      of_none : (e : Entry) (us : List Entry) → us ≡ [] → has_step e us ≡ false
      of_none e us none = ap (has_step e) none

      fixed-by_class : a.undo ≡ false → (class : StepClass) → class_in cs h a.process a.step ≡ class → FixedFree after
      fixed-by_class is_step reserved is =
          let does = step-facts table symmetric plans good h a is_step may in
          let goes = act_active table cs h a may in
          let owes : owed cs h a.process ≡ a ∷ owed cs after a.process = does.reserved_owes is ∙ ap (λ d. d ∷ owed cs after a.process) (sym (is_doing table symmetric plans good h a is_step may)) in
          fixed-step is_step
          (λ x e there active here own fixed back.
          free x e there active here (subst (λ k. IsTrue (is_active h k)) own goes) (of_none e (backward_entries cs h e.process) (subst (λ k. backward_entries cs h k ≡ []) own (does.reserved_before is))) back)
          (λ x there active fixed. conflict-flipped table symmetric a x ((owed-free table symmetric plans good h legal).from_net a.process a x goes (subst (Among a) (sym owes) (inl refl)) there active))
      fixed-by_class is_step undoable is =
          let does = step-facts table symmetric plans good h a is_step may in
          let goes = act_active table cs h a may in
          let adds : backward_entries cs after a.process ≡ backward_entries cs h a.process ++ a ∷ [] =
          does.undoable_after is ∙ ap (λ d. backward_entries cs h a.process ++ d ∷ []) (sym (is_doing table symmetric plans good h a is_step may)) in
          fixed-step is_step
          (λ x e there active here own fixed back.
          free x e there active here (subst (λ k. IsTrue (is_active h k)) own goes)
          (left_false (has_step e (backward_entries cs h e.process)) (has_step e (a ∷ []))
          (sym (list_any-append (same_step e) (backward_entries cs h e.process) (a ∷ [])) ∙ (sym (ap (has_step e) (subst (λ k. backward_entries cs after k ≡ backward_entries cs h k ++ a ∷ []) own adds)) ∙ fixed))) back)
          (λ x there active fixed. absurd (false≢true (sym fixed ∙ (ap (has_step a) adds ∙ (list_any-append (same_step a) (backward_entries cs h a.process) (a ∷ [])
          ∙ or_right (has_step a (backward_entries cs h a.process)) (has_step a (a ∷ [])) (or_left (same_step a a) false (same_step-itself a)))))))
        where
          left_false : (p q : Bool) → (p || q) ≡ false → p ≡ false
          left_false true q is = is
          left_false false q is = refl
      fixed-by_class is_step committing is =
          let clear = committing-clear table cs h a is_step is (clear_of table cs h (Act a) may) in
          let goes = act_active table cs h a may in
          fixed-step is_step
          (λ x e there active here own fixed back.
          conflict-flipped table symmetric e x (clear.2 x e (in_active_net cs h x there active) (behind-active cs h x e active (subst (λ k. IsTrue (is_active h k)) own goes) back) (sym own)))
          (λ x there active fixed. conflict-flipped table symmetric a x (clear.1 x there active))

      fixed-act : (u : Bool) → a.undo ≡ u → FixedFree after
      fixed-act true undo = fixed-undo undo
      fixed-act false is_step = fixed-by_class is_step (class_in cs h a.process a.step) refl

  fixed-more : (h : List Event) (e : Event) → IsTrue (is_legal table cs h) → IsTrue (may_come table cs h e) → FixedFree h → FixedFree (h ++ e ∷ [])
  fixed-more h (Start k) legal may free = fixed-start h legal free k
  fixed-more h (Act a) legal may free = fixed-act h legal free a may a.undo refl
  fixed-more h (End k) legal may free = fixed-end h legal free k

  -- it holds of each legal history
  pub fixed-free : (h : List Event) → IsTrue (is_legal table cs h) → FixedFree h
  fixed-free h legal = by_legal table cs FixedFree fixed-more (λ x e there. absurd there) h legal
