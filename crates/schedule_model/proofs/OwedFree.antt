-- What an active process owes conflicts with nothing that another active process has done or owes.
use Rattle.std.proofs.Common.{◌≡◌, ◌⊎◌, inl, inr, ℕ, Bool, true, false, not, eqb, List, [], ◌∷◌, ◌++◌, sym, refl, ap, ◌∙◌, subst}
use Rattle.std.specs.Bool.{IsTrue}
use Rattle.std.proofs.lemmas.Bool.{eqb-true}
use Rattle.process_tree.specs.declared.entry.Entry.{Entry}
use Rattle.process_tree.specs.declared.plan.Plan.{Plan}
use Rattle.process_tree.specs.Recovery.{StepClass, reserved, committing, undoable}
use Rattle.schedule_model.specs.declared.event.Event.{Event}
use Rattle.schedule_model.specs.declared.event.Event.TheVariants.{Start, Act, End}
use Rattle.schedule_model.specs.Course.{Course, courses_of}
use Rattle.schedule_model.specs.Conflict.{ConflictRelation, IsSymmetric, conflict}
use Rattle.schedule_model.specs.Histories.{doing, is_active, net, same_step}
use Rattle.schedule_model.specs.Recovery.{owed, owed_after, owed_steps}
use Rattle.schedule_model.specs.Legal.{class_in, may_come, is_legal}
use Rattle.schedule_model.specs.Laws.{AreGood, ClassFacts}
use Rattle.schedule_model.proofs.Induction.{by_legal}
use Rattle.schedule_model.proofs.Members.{Among, among-append, among-filter, among-map}
use Rattle.schedule_model.proofs.Conflicts.{conflict-itself, conflict-flipped}
use Rattle.schedule_model.proofs.Snoc.{net-start, net-end, net-do, net-undo, net_of-other, net_of-start, net_of-end, owed-by_net, is_active-do}
use Rattle.schedule_model.proofs.Acting.{act_in_order, order_of, clear_of, act_active}
use Rattle.schedule_model.proofs.Entries.{doing-is}
use Rattle.schedule_model.proofs.Rising.{step_goes_on}
use Rattle.schedule_model.proofs.Undoing.{undoes}
use Rattle.schedule_model.proofs.ClassFacts.{class-facts}
use Rattle.schedule_model.proofs.Clear.{OwedApart, NetApart, undoable-clear, committing-clear}
use Rattle.schedule_model.proofs.Started.{net-started, owed-started, active-before_start, active-before_end}

-- what a process owes is of it
pub owed-own : (courses : List Course) (h : List Event) (i : ℕ) (s : Entry) → Among s (owed courses h i) → s.process ≡ i
owed-own courses h i s is = let found = among-map (doing courses i) s (owed_steps courses h i) is in ap (λ (e : Entry). e.process) (sym found.2)

module _ (table : ConflictRelation) (symmetric : IsSymmetric table) (plans : List Plan) (good : AreGood plans) where
  abbrev cs : List Course
  cs = courses_of plans

  -- What is known of the next step.
  module _ (h : List Event) (e : Entry) (is_step : e.undo ≡ false) (may : IsTrue (may_come table cs h (Act e))) where
    pub is_doing : e ≡ doing cs e.process e.step
    is_doing = doing-is cs e (act_in_order cs h e (order_of table cs h (Act e) may)).1 is_step

    pub step-facts : ClassFacts cs h (h ++ Act e ∷ []) e.process e.step
    step-facts = subst (λ d. ClassFacts cs h (h ++ Act d ∷ []) e.process e.step) (sym is_doing) (class-facts plans h e.process e.step good (step_goes_on table cs h e is_step may))

    pub owed_after-is : class_in cs h e.process e.step ≡ committing → owed cs (h ++ Act e ∷ []) e.process ≡ owed_after cs h e.process e.step
    owed_after-is is = step-facts.committing_owes is

  -- the facts, of a history: owed against net entries, and against what others owe
  pub record OwedFree (h : List Event) : Type 0 where
    pub from_net : (i : ℕ) (s x : Entry) → IsTrue (is_active h i) → Among s (owed cs h i) → Among x (net h) → IsTrue (is_active h x.process) → conflict table s x ≡ false
    pub from_owed : (i k : ℕ) (s r : Entry) → IsTrue (is_active h i) → IsTrue (is_active h k) → Among s (owed cs h i) → Among r (owed cs h k) → conflict table s r ≡ false

  -- where nets shrink or stay, and who owes stays
  owed-kept : (h after : List Event) → ((i : ℕ) (s : Entry) → IsTrue (is_active after i) → Among s (owed cs after i) → IsTrue (is_active h i) × Among s (owed cs h i))
      → ((x : Entry) → Among x (net after) → IsTrue (is_active after x.process) → Among x (net h) × IsTrue (is_active h x.process)) → OwedFree h → OwedFree after
  owed-kept h after owes nets free = record {
    from_net = λ i s x goes is there active. let one = owes i s goes is in let two = nets x there active in free.from_net i s x one.0 one.1 two.0 two.1;
    from_owed = λ i k s r goes other is has. let one = owes i s goes is in let two = owes k r other has in free.from_owed i k s r one.0 two.0 one.1 two.1;
  }

  module _ (h : List Event) (legal : IsTrue (is_legal table cs h)) where
    owed-start : (k : ℕ) → OwedFree h → OwedFree (h ++ Start k ∷ [])
    owed-start k free =
        owed-kept h (h ++ Start k ∷ [])
        (λ i s goes is.
        let before = subst (Among s) (owed-by_net cs (h ++ Start k ∷ []) h i (net_of-start h k i)) is in
        (active-before_start h k i (owed-started table cs h legal i s before) goes, before))
        (λ x there goes.
        let before = subst (Among x) (net-start h k) there in
        (before, active-before_start h k x.process (net-started table cs h legal x before) goes))
        free

    owed-end : (k : ℕ) → OwedFree h → OwedFree (h ++ End k ∷ [])
    owed-end k free =
        owed-kept h (h ++ End k ∷ [])
        (λ i s goes is. (active-before_end h k i goes, subst (Among s) (owed-by_net cs (h ++ End k ∷ []) h i (net_of-end h k i)) is))
        (λ x there goes. (subst (Among x) (net-end h k) there, active-before_end h k x.process goes))
        free

    module _ (e : Entry) (may : IsTrue (may_come table cs h (Act e))) where
      abbrev after : List Event
      after = h ++ Act e ∷ []

      was_active : (i : ℕ) → IsTrue (is_active after i) → IsTrue (is_active h i)
      was_active i goes = sym (is_active-do h e i) ∙ goes

      owed-other : (i : ℕ) → eqb e.process i ≡ false → owed cs after i ≡ owed cs h i
      owed-other i other = owed-by_net cs after h i (net_of-other h e i other)

      owed-undo : e.undo ≡ true → OwedFree h → OwedFree after
      owed-undo undo free =
          owed-kept h after
          (λ i s goes is. (was_active i goes, subst (Among s) (same i (eqb e.process i) refl) is))
          (λ x there goes. ((among-filter (λ (f : Entry). not (same_step f e)) x (net h) (subst (Among x) (net-undo h e undo) there)).0, was_active x.process goes))
          free
        where
          same : (i : ℕ) (own : Bool) → eqb e.process i ≡ own → owed cs after i ≡ owed cs h i
          same i true own = subst (λ k. owed cs after k ≡ owed cs h k) (eqb-true e.process i own) (undoes table cs h e legal undo may).owed
          same i false other = owed-other i other

      module _ (is_step : e.undo ≡ false) (free : OwedFree h)
          (rest : (s : Entry) → Among s (owed cs after e.process) → NetApart table cs h s × OwedApart table cs h s)
          (apart : (k : ℕ) (s : Entry) → eqb e.process k ≡ false → IsTrue (is_active h k) → Among s (owed cs h k) → conflict table e s ≡ false) where
        against_net : (i : ℕ) (s x : Entry) → (own : Bool) → eqb e.process i ≡ own → IsTrue (is_active h i) → Among s (owed cs after i)
            → Among x (net h) ⊎ Among x (e ∷ []) → IsTrue (is_active h x.process) → conflict table s x ≡ false
        against_net i s x true own goes is (inl before) active =
            (rest s (subst (λ k. Among s (owed cs after k)) (sym (eqb-true e.process i own)) is)).0 x before active
        against_net i s x true own goes is (inr (inl now)) active =
            conflict-itself table s x (owed-own cs after i s is ∙ (sym (eqb-true e.process i own) ∙ ap (λ (f : Entry). f.process) now))
        against_net i s x true own goes is (inr (inr none)) active = absurd none
        against_net i s x false other goes is (inl before) active = free.from_net i s x goes (subst (Among s) (owed-other i other) is) before active
        against_net i s x false other goes is (inr (inl now)) active =
            subst (λ f. conflict table s f ≡ false) now (conflict-flipped table symmetric e s (apart i s other goes (subst (Among s) (owed-other i other) is)))
        against_net i s x false other goes is (inr (inr none)) active = absurd none

        against_owed : (i k : ℕ) (s r : Entry) → (own theirs : Bool) → eqb e.process i ≡ own → eqb e.process k ≡ theirs → IsTrue (is_active h i) → IsTrue (is_active h k)
            → Among s (owed cs after i) → Among r (owed cs after k) → conflict table s r ≡ false
        against_owed i k s r true true own too goes other is has =
            conflict-itself table s r (owed-own cs after i s is ∙ (sym (eqb-true e.process i own) ∙ (eqb-true e.process k too ∙ sym (owed-own cs after k r has))))
        against_owed i k s r true false own theirs goes other is has =
            (rest s (subst (λ j. Among s (owed cs after j)) (sym (eqb-true e.process i own)) is)).1 k r other (subst (Among r) (owed-other k theirs) has)
        against_owed i k s r false true mine too goes other is has =
            conflict-flipped table symmetric r s ((rest r (subst (λ j. Among r (owed cs after j)) (sym (eqb-true e.process k too)) has)).1 i s goes (subst (Among s) (owed-other i mine) is))
        against_owed i k s r false false mine theirs goes other is has =
            free.from_owed i k s r goes other (subst (Among s) (owed-other i mine) is) (subst (Among r) (owed-other k theirs) has)

        owed-step : OwedFree after
        owed-step = record {
          from_net = λ i s x goes is there active.
              against_net i s x (eqb e.process i) refl (was_active i goes) is (among-append x (net h) (e ∷ []) (subst (Among x) (net-do h e is_step) there)) (was_active x.process active);
          from_owed = λ i k s r goes other is has. against_owed i k s r (eqb e.process i) (eqb e.process k) refl refl (was_active i goes) (was_active k other) is has;
        }

      by_class : e.undo ≡ false → OwedFree h → (class : StepClass) → class_in cs h e.process e.step ≡ class → OwedFree after
      by_class is_step free reserved is =
          let does = step-facts h e is_step may in
          let goes = act_active table cs h e may in
          let owes : owed cs h e.process ≡ e ∷ owed cs after e.process = does.reserved_owes is ∙ ap (λ d. d ∷ owed cs after e.process) (sym (is_doing h e is_step may)) in
          owed-step is_step free
          (λ s has.
          let before = subst (Among s) (sym owes) (inr has) in
          (λ x there active. free.from_net e.process s x goes before there active, λ k r active owed. free.from_owed e.process k s r goes active before owed))
          (λ k s other active has. free.from_owed e.process k e s goes active (subst (Among e) (sym owes) (inl refl)) has)
      by_class is_step free undoable is =
          let does = step-facts h e is_step may in
          let goes = act_active table cs h e may in
          let apart = (undoable-clear table cs h e is_step is (clear_of table cs h (Act e) may)).0 in
          owed-step is_step free
          (λ s has.
          let before = subst (Among s) (does.undoable_owes is) has in
          (λ x there active. free.from_net e.process s x goes before there active, λ k r active owed. free.from_owed e.process k s r goes active before owed))
          (λ k s other active has. apart k s active has)
      by_class is_step free committing is =
          let does = step-facts h e is_step may in
          let clear = committing-clear table cs h e is_step is (clear_of table cs h (Act e) may) in
          owed-step is_step free
          (λ s has. clear.3 s (subst (Among s) (does.committing_owes is) has))
          (λ k s other active has. clear.0 k s active has)

      owed-act : (u : Bool) → e.undo ≡ u → OwedFree h → OwedFree after
      owed-act true undo free = owed-undo undo free
      owed-act false is_step free = by_class is_step free (class_in cs h e.process e.step) refl

    owed-more : (e : Event) → IsTrue (may_come table cs h e) → OwedFree h → OwedFree (h ++ e ∷ [])
    owed-more (Start k) may free = owed-start k free
    owed-more (Act e) may free = owed-act e may e.undo refl free
    owed-more (End k) may free = owed-end k free

  -- it holds of each legal history
  pub owed-free : (h : List Event) → IsTrue (is_legal table cs h) → OwedFree h
  owed-free h legal =
      by_legal table cs OwedFree (λ g e before may free. owed-more g before e may free)
      (record { from_net = λ i s x goes is there active. absurd there; from_owed = λ i k s r goes other is has. absurd is }) h legal
