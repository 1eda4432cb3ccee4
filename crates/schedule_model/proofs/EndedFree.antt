-- No net entry of an ended process conflicts with an earlier one of a process that is active, or ended after it.
use Rattle.std.proofs.Common.{◌≡◌, ◌⊎◌, inl, inr, ⊎_elim, ℕ, Bool, true, false, cond, eqb, ◌||◌, List, [], ◌∷◌, ◌++◌, sym, refl, ap, ◌∙◌, subst, append-nil}
use Rattle.std.specs.Bool.{IsTrue}
use Rattle.std.proofs.lemmas.Bool.{and_parts, eqb-true, or_left, or_right, or_cases, false≢true}
use Rattle.process_tree.specs.declared.entry.Entry.{Entry}
use Rattle.schedule_model.specs.declared.event.Event.{Event}
use Rattle.schedule_model.specs.declared.event.Event.TheVariants.{Start, Act, End}
use Rattle.schedule_model.specs.Course.{Course}
use Rattle.schedule_model.specs.Conflict.{ConflictRelation, IsSymmetric, conflict}
use Rattle.schedule_model.specs.Histories.{after_number, ends, is_active, is_in, net, outlives}
use Rattle.schedule_model.specs.Holdings.{behind}
use Rattle.schedule_model.specs.Legal.{is_clear, may_come, is_legal, keeps_and_ends_clear, is_reducible}
use Rattle.schedule_model.specs.OwnOrder.{keeps_order}
use Rattle.schedule_model.proofs.Members.{Among}
use Rattle.schedule_model.proofs.Appends.{ends-append, is_in-append}
use Rattle.schedule_model.proofs.Conflicts.{conflict-flipped}
use Rattle.schedule_model.proofs.Snoc.{net-start, net-end, is_active-do}
use Rattle.schedule_model.proofs.Acting.{act_in_order, end_in_order}
use Rattle.schedule_model.proofs.Clear.{end-clear, in_active_net}
use Rattle.schedule_model.proofs.Induction.{by_reducible}
use Rattle.schedule_model.proofs.NoConflict.{reducible_keeps, legal-from_reducible, may_come-no_conflict}
use Rattle.schedule_model.proofs.CompletionLaws.{ended-inactive}
use Rattle.schedule_model.proofs.Started.{net-started, active-before_start, active-before_end}
use Rattle.schedule_model.proofs.NewSteps.{step-is_new}
use Rattle.schedule_model.proofs.Orders.{behind-undo, behind-do, behind-active}
use Rattle.schedule_model.specs.Conflict.{no_conflict}

-- The numbers after one, with one more at the end.

after_step : (i x k : ℕ) (xs : List ℕ) (t : Bool) → (is_in i xs ≡ true → after_number i (xs ++ k ∷ []) ≡ after_number i xs ++ k ∷ [])
    → (t || is_in i xs) ≡ true → cond t (xs ++ k ∷ []) (after_number i (xs ++ k ∷ [])) ≡ cond t xs (after_number i xs) ++ k ∷ []
after_step i x k xs true rest is = refl
after_step i x k xs false rest is = rest is

after-listed : (i k : ℕ) (xs : List ℕ) → is_in i xs ≡ true → after_number i (xs ++ k ∷ []) ≡ after_number i xs ++ k ∷ []
after-listed i k [] is = absurd (false≢true is)
after-listed i k (x ∷ xs) is = after_step i x k xs (eqb i x) (after-listed i k xs) is

last_step : (i k x : ℕ) (xs : List ℕ) (t : Bool) → (is_in i xs ≡ false → after_number i (xs ++ k ∷ []) ≡ [])
    → (t || is_in i xs) ≡ false → cond t (xs ++ k ∷ []) (after_number i (xs ++ k ∷ [])) ≡ []
last_step i k x xs true rest out = absurd (false≢true (sym out))
last_step i k x xs false rest out = rest out

either_empty : (t : Bool) → (let none : List ℕ = [] in cond t none none) ≡ []
either_empty true = refl
either_empty false = refl

after-last : (i k : ℕ) (xs : List ℕ) → is_in i xs ≡ false → after_number i (xs ++ k ∷ []) ≡ []
after-last i k [] out = either_empty (eqb i k)
after-last i k (x ∷ xs) out = last_step i k x xs (eqb i x) (after-last i k xs) out

module _ (table : ConflictRelation) (symmetric : IsSymmetric table) (courses : List Course) where
  abbrev pub EndedFree : List Event → Type 0
  EndedFree h = (x e : Entry) → IsTrue (is_in e.process (ends h)) → IsTrue (outlives h x.process e.process) → Among x (net h) → Among e (behind x (net h)) → conflict table x e ≡ false

  -- the same is said where nobody ends and whoever is active was
  outlived-same : (h : List Event) (e : Event) (k i : ℕ) → ends (h ++ e ∷ []) ≡ ends h → (IsTrue (is_active (h ++ e ∷ []) k) → IsTrue (is_active h k))
      → IsTrue (outlives (h ++ e ∷ []) k i) → IsTrue (outlives h k i)
  outlived-same h e k i same was is =
      ⊎_elim
      (λ goes. or_left (is_active h k) (is_in k (after_number i (ends h))) (was goes))
      (λ later. or_right (is_active h k) (is_in k (after_number i (ends h))) (sym (ap (λ es. is_in k (after_number i es)) same) ∙ later))
      (or_cases (is_active (h ++ e ∷ []) k) (is_in k (after_number i (ends (h ++ e ∷ [])))) is)

  module _ (h : List Event) (reducible : IsTrue (is_reducible table courses h)) (free : EndedFree h) where
    own_legal : IsTrue (is_legal no_conflict courses h)
    own_legal = legal-from_reducible courses table h reducible

    ended-start : (k : ℕ) → EndedFree (h ++ Start k ∷ [])
    ended-start k x e ended lives there back =
        let same = ends-append h (Start k ∷ []) ∙ append-nil (ends h) in
        let x_in = subst (Among x) (net-start h k) there in
        free x e (sym (ap (is_in e.process) same) ∙ ended)
        (outlived-same h (Start k) x.process e.process same (active-before_start h k x.process (net-started no_conflict courses h own_legal x x_in)) lives)
        x_in (subst (λ es. Among e (behind x es)) (net-start h k) back)

    module _ (a : Entry) (keeps : IsTrue (keeps_order courses h (Act a))) where
      same_ends : ends (h ++ Act a ∷ []) ≡ ends h
      same_ends = ends-append h (Act a ∷ []) ∙ append-nil (ends h)

      may : IsTrue (may_come no_conflict courses h (Act a))
      may = may_come-no_conflict courses h (Act a) keeps

      before : (x e : Entry) → IsTrue (is_in e.process (ends (h ++ Act a ∷ []))) → IsTrue (outlives (h ++ Act a ∷ []) x.process e.process) → Among x (net h) → Among e (behind x (net h)) → conflict table x e ≡ false
      before x e ended lives there back =
          free x e (sym (ap (is_in e.process) same_ends) ∙ ended)
          (outlived-same h (Act a) x.process e.process same_ends (λ goes. sym (is_active-do h a x.process) ∙ goes) lives) there back

      -- the step is of an active process
      not_ended : (e : Entry) → a ≡ e → IsTrue (is_in e.process (ends (h ++ Act a ∷ []))) → ⊥
      not_ended e same ended =
          let goes = (act_in_order courses h a keeps).0 in
          let out = ended-inactive courses h e.process (sym (ap (is_in e.process) same_ends) ∙ ended) in
          false≢true (sym out ∙ (ap (λ (f : Entry). is_active h f.process) (sym same) ∙ goes))

      ended-act : (u : Bool) → a.undo ≡ u → EndedFree (h ++ Act a ∷ [])
      ended-act true undo x e ended lives there back =
          let found = behind-undo h a x e undo there back in before x e ended lives found.0 found.1
      ended-act false is_step x e ended lives there back =
          let found = behind-do h a x e is_step (step-is_new no_conflict courses h own_legal a is_step may) there back in
          ⊎_elim (λ was. before x e ended lives found.0 was) (λ now. absurd (not_ended e now ended)) found.1

    module _ (j : ℕ) (goes : IsTrue (is_active h j)) (clear : IsTrue (is_clear table courses h (End j))) where
      same_net : net (h ++ End j ∷ []) ≡ net h
      same_net = net-end h j

      all_ends : ends (h ++ End j ∷ []) ≡ ends h ++ j ∷ []
      all_ends = ends-append h (End j ∷ [])

      -- who outlives one that had ended before outlived it before
      outlived-before : (k i : ℕ) → is_in i (ends h) ≡ true → IsTrue (outlives (h ++ End j ∷ []) k i) → IsTrue (outlives h k i)
      outlived-before k i ended is =
          ⊎_elim
          (λ active. or_left (is_active h k) (is_in k (after_number i (ends h))) (active-before_end h j k active))
          (λ later. by_place (or_cases (is_in k (after_number i (ends h))) (is_in k (j ∷ []))
          (sym (ap (is_in k) (ap (after_number i) all_ends ∙ after-listed i j (ends h) ended) ∙ is_in-append k (after_number i (ends h)) (j ∷ [])) ∙ later)))
          (or_cases (is_active (h ++ End j ∷ []) k) (is_in k (after_number i (ends (h ++ End j ∷ [])))) is)
        where
          by_this : (eqb k j ≡ true) ⊎ (false ≡ true) → IsTrue (outlives h k i)
          by_this (inl same) = or_left (is_active h k) (is_in k (after_number i (ends h))) (ap (is_active h) (eqb-true k j same) ∙ goes)
          by_this (inr none) = absurd (false≢true none)

          by_place : (is_in k (after_number i (ends h)) ≡ true) ⊎ (is_in k (j ∷ []) ≡ true) → IsTrue (outlives h k i)
          by_place (inl was) = or_right (is_active h k) (is_in k (after_number i (ends h))) was
          by_place (inr now) = by_this (or_cases (eqb k j) false now)

      -- who outlives the one that ends is active
      active-outlives : (k : ℕ) → is_in j (ends h) ≡ false → IsTrue (outlives (h ++ End j ∷ []) k j) → IsTrue (is_active h k)
      active-outlives k open' is =
          ⊎_elim
          (λ active. active-before_end h j k active)
          (λ later. absurd (false≢true (sym (ap (is_in k) (ap (after_number j) all_ends ∙ after-last j j (ends h) open')) ∙ later)))
          (or_cases (is_active (h ++ End j ∷ []) k) (is_in k (after_number j (ends (h ++ End j ∷ [])))) is)

      ended-end : EndedFree (h ++ End j ∷ [])
      ended-end x e ended lives there back = by_before (is_in e.process (ends h)) refl
        where
          x_in : Among x (net h)
          x_in = subst (Among x) same_net there

          back_in : Among e (behind x (net h))
          back_in = subst (λ es. Among e (behind x es)) same_net back

          now_ended : is_in e.process (ends h) ≡ false → e.process ≡ j
          now_ended out = by_now (or_cases (is_in e.process (ends h)) (is_in e.process (j ∷ [])) (sym (ap (is_in e.process) all_ends ∙ is_in-append e.process (ends h) (j ∷ [])) ∙ ended))
            where
              by_this : (eqb e.process j ≡ true) ⊎ (false ≡ true) → e.process ≡ j
              by_this (inl same) = eqb-true e.process j same
              by_this (inr none) = absurd (false≢true none)

              by_now : (is_in e.process (ends h) ≡ true) ⊎ (is_in e.process (j ∷ []) ≡ true) → e.process ≡ j
              by_now (inl was) = absurd (false≢true (sym out ∙ was))
              by_now (inr now) = by_this (or_cases (eqb e.process j) false now)

          by_before : (t : Bool) → is_in e.process (ends h) ≡ t → conflict table x e ≡ false
          by_before true was = free x e was (outlived-before x.process e.process was lives) x_in back_in
          by_before false out =
              let own = now_ended out in
              let x_goes = active-outlives x.process (sym (ap (λ i. is_in i (ends h)) own) ∙ out) (subst (λ i. IsTrue (outlives (h ++ End j ∷ []) x.process i)) own lives) in
              let e_goes : IsTrue (is_active h e.process) = ap (is_active h) own ∙ goes in
              conflict-flipped table symmetric e x (end-clear table courses h j clear x e (in_active_net courses h x x_in x_goes) (behind-active courses h x e x_goes e_goes back_in) own)

  ended-more : (h : List Event) (e : Event) → IsTrue (is_reducible table courses h) → IsTrue (keeps_and_ends_clear table courses h e) → EndedFree h → EndedFree (h ++ e ∷ [])
  ended-more h (Start k) reducible comes free = ended-start h reducible free k
  ended-more h (Act a) reducible comes free = ended-act h reducible free a (reducible_keeps courses table h (Act a) comes) a.undo refl
  ended-more h (End k) reducible comes free =
      let parts = and_parts (keeps_order courses h (End k)) (is_clear table courses h (End k)) comes in
      ended-end h reducible free k (end_in_order courses h k parts.0).0 parts.1

  -- it holds of each reducible history
  pub ended-free : (h : List Event) → IsTrue (is_reducible table courses h) → EndedFree h
  ended-free h reducible = by_reducible table courses EndedFree ended-more (λ x e ended lives there. absurd there) h reducible
