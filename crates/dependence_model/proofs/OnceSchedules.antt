-- In own order each step comes once, and is undone at most once behind it.
use Rattle.std.proofs.Common.{◌≡◌, inl, inr, ⊎_elim, Bool, true, false, not, cond, eqb, ltb, ◌||◌, ◌&&◌, List, [], ◌∷◌, ◌++◌, filter, sym, refl, ap, ◌∙◌, subst, arith, append-nil}
use Rattle.std.specs.Bool.{IsTrue}
use Rattle.std.specs.List.{list_any, list_all}
use Rattle.std.proofs.lemmas.Bool.{and_parts, and_from, or_left, or_from, or_parts, and_left, eqb-true, eq-eqb, false≢true, ltb-true}
use Rattle.process_tree.specs.declared.entry.Entry.{Entry}
use Rattle.process_tree.specs.Shape.{goes_on_to}
use Rattle.schedule_model.specs.declared.event.Event.{Event}
use Rattle.schedule_model.specs.declared.event.Event.TheVariants.{Start, Act, End}
use Rattle.schedule_model.specs.Course.{Course, courses_of, shape}
use Rattle.schedule_model.specs.Conflict.{no_conflict}
use Rattle.schedule_model.specs.Completion.{completed}
use Rattle.schedule_model.specs.Histories.{acts, done_steps, net, net_acts, net_of, net_steps, of_process, same_step, takes_back}
use Rattle.schedule_model.specs.OwnOrder.{is_in_own_order}
use Rattle.schedule_model.specs.Legal.{may_come, is_legal}
use Rattle.schedule_model.proofs.Appends.{acts-append}
use Rattle.schedule_model.proofs.Behind.{same_step-symmetric}
use Rattle.schedule_model.proofs.CompletionLaws.{own_order-completion}
use Rattle.schedule_model.proofs.Induction.{by_legal}
use Rattle.schedule_model.proofs.Members.{Among, among-left, among_there, among-append, in_filter, in_map, all-among}
use Rattle.schedule_model.proofs.NoConflict.{legal-from_own_order}
use Rattle.schedule_model.proofs.Orders.{same_step-through}
use Rattle.schedule_model.proofs.Rising.{step_goes_on}
use Rattle.schedule_model.proofs.Started.{among_net_of}
use Rattle.schedule_model.proofs.Undoing.{undoes}
use Rattle.dependence_model.specs.Laws.{comes_again, AreOnce, SchedulesAreOnce}
use Rattle.dependence_model.proofs.Once.{none-among}

-- one entry more that is no second of any
once-push : (es : List Entry) (e : Entry) → AreOnce es → ((f : Entry) → Among f es → comes_again f e ≡ false) → AreOnce (es ++ e ∷ [])
once-push [] e once new = (refl, tt)
once-push (x ∷ es) e once new = (any-push es once.0 (λ f is. new f is), once-push es e once.1 (λ f is. new f (inr is)))
  where
    any-push : (fs : List Entry) → list_any (comes_again x) fs ≡ false → ((f : Entry) → Among f (x ∷ es) → comes_again f e ≡ false) → list_any (comes_again x) (fs ++ e ∷ []) ≡ false
    any-push [] none new = or_from (comes_again x e) false (new x (inl refl)) refl
    any-push (f ∷ fs) none new =
        let parts = or_parts (comes_again x f) (list_any (comes_again x) fs) none in
        or_from (comes_again x f) (list_any (comes_again x) (fs ++ e ∷ [])) parts.0 (any-push fs parts.1 new)

-- What stands in the net took effect, and no undo takes it back.

net-among : (es : List Entry) (x : Entry) → Among x (net_acts es) → Among x es × (x.undo ≡ false)
net-among [] x is = absurd is
net-among (e ∷ es) x is = by_kept (e.undo || list_any (λ f. takes_back f e) es) refl is (net-among es x)
  where
    by_kept : (t : Bool) → (e.undo || list_any (λ f. takes_back f e) es) ≡ t → Among x (cond t (net_acts es) (e ∷ net_acts es))
        → (Among x (net_acts es) → Among x es × (x.undo ≡ false)) → Among x (e ∷ es) × (x.undo ≡ false)
    by_kept true out is later = let l = later is in (inr l.0, l.1)
    by_kept false kept (inl here) later = (inl here, ap (λ (f : Entry). f.undo) (sym here) ∙ (or_parts e.undo (list_any (λ f. takes_back f e) es) kept).0)
    by_kept false kept (inr is) later = let l = later is in (inr l.0, l.1)

net-not_undone : (es : List Entry) (x f : Entry) → AreOnce es → Among x (net_acts es) → Among f es → f.undo ≡ true → same_step x f ≡ true → ⊥
net-not_undone [] x f once is behind undo same = is
net-not_undone (e ∷ es) x f once is (inl here) undo same =
    let undo' : e.undo ≡ true = ap (λ (g : Entry). g.undo) here ∙ undo in
    let out : (e.undo || list_any (λ f. takes_back f e) es) ≡ true = or_left e.undo (list_any (λ f. takes_back f e) es) undo' in
    let there = subst (λ t. Among x (cond t (net_acts es) (e ∷ net_acts es))) out is in
    false≢true (sym (none-among (comes_again e) x es once.0 (net-among es x there).0)
    ∙ and_from (same_step e x) (e.undo || not x.undo) (ap (λ g. same_step g x) here ∙ (same_step-symmetric f x ∙ same)) (or_left e.undo (not x.undo) undo'))
net-not_undone (e ∷ es) x f once is (inr behind) undo same =
    by_kept (e.undo || list_any (λ g. takes_back g e) es) refl is (λ there. net-not_undone es x f once.1 there behind undo same)
  where
    by_kept : (t : Bool) → (e.undo || list_any (λ g. takes_back g e) es) ≡ t → Among x (cond t (net_acts es) (e ∷ net_acts es)) → (Among x (net_acts es) → ⊥) → ⊥
    by_kept true out is later = later is
    by_kept false kept (inl here) later =
        let none = (or_parts e.undo (list_any (λ g. takes_back g e) es) kept).1 in
        false≢true (sym (none-among (λ g. takes_back g e) f es none behind)
        ∙ and_from f.undo (same_step e f) undo (ap (λ g. same_step g f) here ∙ same))
    by_kept false kept (inr is) later = later is

module _ (courses : List Course) where
  -- each undo has its step before it
  abbrev HaveSteps : List Entry → Type 0
  HaveSteps es = (u : Entry) → Among u es → u.undo ≡ true → (f : Entry) × Among f es × (f.undo ≡ false) × (same_step f u ≡ true)

  record IsOnce (h : List Event) : Type 0 where
    once : AreOnce (acts h)
    steps : HaveSteps (acts h)

  -- what took effect is a step that is done
  done : (h : List Event) (f : Entry) → Among f (acts h) → f.undo ≡ false → Among f.step (done_steps h f.process)
  done h f is forward =
      in_map (λ (e : Entry). e.step) f (of_process f.process (filter (λ e. not e.undo) (acts h)))
      (in_filter (λ (e : Entry). eqb e.process f.process) f (filter (λ e. not e.undo) (acts h)) (in_filter (λ (e : Entry). not e.undo) f (acts h) is (ap not forward)) (eq-eqb f.process f.process refl))

  -- a step that goes on is of none of those
  new-step : (h : List Event) (e f : Entry) → IsTrue (may_come no_conflict courses h (Act e)) → e.undo ≡ false → Among f (acts h) → f.undo ≡ false → same_step f e ≡ true → ⊥
  new-step h e f may is_step is forward same =
      let parts = and_parts (eqb f.process e.process) (eqb f.step e.step) same in
      let goes = step_goes_on no_conflict courses h e is_step may in
      let above = (and_parts (goes_on_to (shape courses e.process) (net_steps h e.process) e.step) (list_all (λ d. ltb d e.step) (done_steps h e.process)) goes).1 in
      let stands = subst (λ p. Among f.step (done_steps h p)) (eqb-true f.process e.process parts.0) (done h f is forward) in
      let less = ltb-true f.step e.step (all-among (λ d. ltb d e.step) (done_steps h e.process) above f.step stands) in
      let equal = eqb-true f.step e.step parts.1 in
      absurd (omega arith)

  -- Neither a step nor an undo comes again.

  step-again : (h : List Event) (e f : Entry) → IsTrue (may_come no_conflict courses h (Act e)) → e.undo ≡ false → IsOnce h → Among f (acts h) → (t u : Bool) → same_step f e ≡ t → f.undo ≡ u
      → comes_again f e ≡ false
  step-again h e f may is_step known is false u other done' = and_left (same_step f e) (f.undo || not e.undo) other
  step-again h e f may is_step known is true false same forward = absurd (new-step h e f may is_step is forward same)
  step-again h e f may is_step known is true true same undo =
      let s = known.steps f is undo in
      absurd (new-step h e s.0 may is_step s.1 s.2 (same_step-through s.0 f e s.3 ∙ same))

  -- the entry that an undo takes back
  taken-back : (h : List Event) (e : Entry) → IsTrue (is_legal no_conflict courses h) → IsTrue (may_come no_conflict courses h (Act e)) → e.undo ≡ true
      → (x : Entry) × Among x (net h) × (same_step x e ≡ true)
  taken-back h e legal may undo =
      let does = undoes no_conflict courses h e legal undo may in
      let found = among_net_of h e.process does.last (subst (Among does.last) (sym does.net) (among_there (net_of (h ++ Act e ∷ []) e.process) does.last [])) in
      (does.last, found.0, does.same)

  undo-again : (h : List Event) (e f : Entry) → IsTrue (is_legal no_conflict courses h) → IsTrue (may_come no_conflict courses h (Act e)) → e.undo ≡ true → AreOnce (acts h) → Among f (acts h)
      → (t u : Bool) → same_step f e ≡ t → f.undo ≡ u → comes_again f e ≡ false
  undo-again h e f legal may undo once is false u other done' = and_left (same_step f e) (f.undo || not e.undo) other
  undo-again h e f legal may undo once is true false same forward =
      ap (λ t. same_step f e && t) (or_from f.undo (not e.undo) forward (ap not undo)) ∙ ap (λ t. t && false) same
  undo-again h e f legal may undo once is true true same undo' =
      let x = taken-back h e legal may undo in
      absurd (net-not_undone (acts h) x.0 f once x.1 is undo' (same_step-symmetric x.0 f ∙ (same_step-through f e x.0 same ∙ (same_step-symmetric e x.0 ∙ x.2))))

  again : (h : List Event) (e f : Entry) → IsTrue (is_legal no_conflict courses h) → IsTrue (may_come no_conflict courses h (Act e)) → IsOnce h → Among f (acts h) → (u : Bool) → e.undo ≡ u → comes_again f e ≡ false
  again h e f legal may known is false is_step = step-again h e f may is_step known is (same_step f e) f.undo refl refl
  again h e f legal may known is true undo = undo-again h e f legal may undo known.once is (same_step f e) f.undo refl refl

  steps-more : (h : List Event) (e : Entry) → IsTrue (is_legal no_conflict courses h) → IsTrue (may_come no_conflict courses h (Act e)) → IsOnce h → HaveSteps (acts h ++ e ∷ [])
  steps-more h e legal may known u is undo =
      ⊎_elim (λ there. let s = known.steps u there undo in (s.0, among-left s.0 (acts h) (e ∷ []) s.1, s.2, s.3))
      (λ last. ⊎_elim (λ here. its_step (ap (λ (f : Entry). f.undo) here ∙ undo) here) (λ none. absurd none) last)
      (among-append u (acts h) (e ∷ []) is)
    where
      its_step : e.undo ≡ true → e ≡ u → (f : Entry) × Among f (acts h ++ e ∷ []) × (f.undo ≡ false) × (same_step f u ≡ true)
      its_step undo' here =
          let x = taken-back h e legal may undo' in
          let stood = net-among (acts h) x.0 x.1 in
          (x.0, among-left x.0 (acts h) (e ∷ []) stood.0, stood.1, subst (λ z. same_step x.0 z ≡ true) here x.2)

  more : (h : List Event) (e : Event) → IsTrue (is_legal no_conflict courses h) → IsTrue (may_come no_conflict courses h e) → IsOnce h → IsOnce (h ++ e ∷ [])
  more h (Start k) legal may known = let same = sym (acts-append h (Start k ∷ []) ∙ append-nil (acts h)) in record { once = subst AreOnce same known.once; steps = subst HaveSteps same known.steps }
  more h (End k) legal may known = let same = sym (acts-append h (End k ∷ []) ∙ append-nil (acts h)) in record { once = subst AreOnce same known.once; steps = subst HaveSteps same known.steps }
  more h (Act e) legal may known =
      let same = sym (acts-append h (Act e ∷ [])) in
      record {
        once = subst AreOnce same (once-push (acts h) e known.once (λ f is. again h e f legal may known is e.undo refl));
        steps = subst HaveSteps same (steps-more h e legal may known);
      }

  own_order-once : (h : List Event) → IsTrue (is_in_own_order courses h) → AreOnce (acts h)
  own_order-once h own =
      (by_legal no_conflict courses IsOnce more (record { once = tt; steps = λ u is undo. absurd is }) h (legal-from_own_order courses h own)).once

pub schedules-once : SchedulesAreOnce
schedules-once plans h good own = own_order-once (courses_of plans) (completed (courses_of plans) h) (own_order-completion plans h good own).0
