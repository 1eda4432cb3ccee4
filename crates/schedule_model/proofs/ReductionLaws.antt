-- The reduction law: the printed trace of a reducible history in which nobody is active leads to a serial list.
use Rattle.std.proofs.Common.{◌≡◌, ◌⊎◌, inl, inr, ℕ, ◌+◌, Bool, true, false, not, cond, eqb, ◌&&◌, ◌||◌, List, [], ◌∷◌, ◌++◌, length, Option, Some, None, sym, refl, ap, ◌∙◌, subst, append-nil, append_assoc}
use Rattle.std.proofs.Math.Bool.{and-false}
use Rattle.std.specs.Prelude.{is_none}
use Rattle.std.specs.Bool.{IsTrue}
use Rattle.std.specs.List.{list_any, list_all}
use Rattle.std.proofs.lemmas.Bool.{and_parts, or_right, not-true, eqb-true, eq-eqb, eqb-false, ne_eqb, false≢true, or_parts}
use Rattle.process_tree.specs.declared.entry.Entry.{Entry}
use Rattle.schedule_model.specs.declared.event.Event.{Event}
use Rattle.schedule_model.specs.declared.event.Event.TheVariants.{Start, Act, End}
use Rattle.schedule_model.specs.Course.{Course, courses_of}
use Rattle.schedule_model.specs.Conflict.{ConflictRelation, IsSymmetric, no_conflict}
use Rattle.schedule_model.specs.Histories.{acts, active, after_number, ends, is_active, is_in, net, of_process, same_step, starts}
use Rattle.schedule_model.specs.Holdings.{behind}
use Rattle.schedule_model.specs.Legal.{is_legal, is_reducible, may_come}
use Rattle.schedule_model.specs.Reduction.{applied_all, is_out_of_place, not_serial_from}
use Rattle.schedule_model.specs.PrintedTrace.{Trace, cancel_phase, serial_phase, trace_of}
use Rattle.schedule_model.specs.Completion.{completed}
use Rattle.schedule_model.specs.Laws.{Reduces, ReductionLaw, PrefixReducibility}
use Rattle.schedule_model.proofs.Induction.{by_legal}
use Rattle.schedule_model.proofs.Members.{Among, among-right, among-filter, not_any, all-among}
use Rattle.schedule_model.proofs.Appends.{ends-append, is_in-append}
use Rattle.schedule_model.proofs.Apart.{Apart, net-apart}
use Rattle.schedule_model.proofs.Behind.{has_step, behind-split, same_step-symmetric}
use Rattle.schedule_model.proofs.Acting.{end_active}
use Rattle.schedule_model.proofs.NoConflict.{legal-from_reducible, reducible-legal}
use Rattle.schedule_model.proofs.Started.{net-started}
use Rattle.schedule_model.proofs.EndedFree.{ended-free}
use Rattle.schedule_model.proofs.CompletionLaws.{all_ended}
use Rattle.schedule_model.proofs.CancelPhase.{cancel-phase, net-steps_only}
use Rattle.schedule_model.proofs.SerialPhase.{Distinct, AllOf, LaterFree, orders, in_order}
use Rattle.schedule_model.proofs.Places.{applied_all-append}
use Rattle.schedule_model.proofs.Chains.{applied-steps_reduce}
use Rattle.schedule_model.proofs.Legal.{is_legal-prefix}
use Rattle.schedule_model.proofs.StandingLaws.{completed-legal}

-- Processes end once.

distinct-push : (is : List ℕ) (k : ℕ) → Distinct is → is_in k is ≡ false → Distinct (is ++ k ∷ [])
distinct-push [] k distinct out = (refl, tt)
distinct-push (i ∷ is) k distinct out =
    let parts = or_parts (eqb k i) (is_in k is) out in
    (is_in-append i is (k ∷ []) ∙ (ap (λ t. t || (eqb i k || false)) distinct.0 ∙ ap (λ t. t || false) (flip i k parts.0)), distinct-push is k distinct.1 parts.1)
  where
    flip : (a b : ℕ) → eqb b a ≡ false → eqb a b ≡ false
    flip a b is = ne_eqb a b (λ same. eqb-false b a is (sym same))

module _ (table : ConflictRelation) (courses : List Course) where
  not_ended : (h : List Event) (k : ℕ) → IsTrue (is_active h k) → is_in k (ends h) ≡ false
  not_ended h k goes = not-true (is_in k (ends h)) (and_parts (is_in k (starts h)) (not (is_in k (ends h))) goes).1

  distinct-more : (h : List Event) (e : Event) → IsTrue (may_come table courses h e) → Distinct (ends h) → Distinct (ends (h ++ e ∷ []))
  distinct-more h (Start k) may distinct = subst Distinct (sym (ends-append h (Start k ∷ []) ∙ append-nil (ends h))) distinct
  distinct-more h (Act e) may distinct = subst Distinct (sym (ends-append h (Act e ∷ []) ∙ append-nil (ends h))) distinct
  distinct-more h (End k) may distinct =
      subst Distinct (sym (ends-append h (End k ∷ []))) (distinct-push (ends h) k distinct (not_ended h k (end_active table courses h k may)))

  pub ends-distinct : (h : List Event) → IsTrue (is_legal table courses h) → Distinct (ends h)
  ends-distinct h legal = by_legal table courses (λ g. Distinct (ends g)) (λ g e before may distinct. distinct-more g e may distinct) tt h legal

-- The net is as free as the serial phase needs.

module _ (table : ConflictRelation) (symmetric : IsSymmetric table) (courses : List Course) (h : List Event) (reducible : IsTrue (is_reducible table courses h)) (none : active h ≡ []) where
  legal : IsTrue (is_legal no_conflict courses h)
  legal = legal-from_reducible courses table h reducible

  all-ended : AllOf (ends h) (net h)
  all-ended e is = all_ended courses h none e.process (net-started no_conflict courses h legal e is)

  out_of_front : (front : List Entry) (a : Entry) (es : List Entry) → Apart (front ++ a ∷ es) → has_step a front ≡ false
  out_of_front [] a es apart = refl
  out_of_front (f ∷ front) a es apart =
      ap (λ t. t || has_step a front) (apart_of front apart.0) ∙ out_of_front front a es apart.1
    where
      flip : (s : Bool) → not s ≡ true → s ≡ false
      flip true is = absurd (false≢true is)
      flip false is = refl

      apart_of : (es' : List Entry) → list_all (λ g. not (same_step f g)) (es' ++ a ∷ es) ≡ true → same_step a f ≡ false
      apart_of es' all =
          same_step-symmetric a f
          ∙ flip (same_step f a) (all-among (λ g. not (same_step f g)) (es' ++ a ∷ es) all a (among-right a es' (a ∷ es) (inl refl)))

  free_from : (front es : List Entry) → net h ≡ front ++ es → LaterFree table (ends h) es
  free_from front [] is = tt
  free_from front (a ∷ es) is = (
    λ x there later.
        let a_in = subst (Among a) (sym is) (among-right a front (a ∷ es) (inl refl)) in
        let x_in = subst (Among x) (sym is) (among-right x front (a ∷ es) (inr there)) in
        let back : Among x (behind a (net h)) = subst (Among x) (sym (ap (behind a) is ∙ behind-split front a es (out_of_front front a es (subst Apart is (net-apart no_conflict courses h legal))))) there in
        ended-free table symmetric courses h reducible a x (all-ended x x_in) (or_right (is_active h a.process) (is_in a.process (after_number x.process (ends h))) later) a_in back,
    free_from (front ++ a ∷ []) es (is ∙ sym (append_assoc front (a ∷ []) es)),
  )

  -- The list is serial.

  abbrev NotIn : List ℕ → List Entry → Type 0
  NotIn order es = (e : Entry) → Among e es → is_in e.process order ≡ false

  -- the entries of one process stand where the last is of it, or none is
  abbrev Fits : ℕ → List Entry → Type 0
  Fits i before = ((x : Entry) × (xs : List Entry) × (before ≡ x ∷ xs) × (x.process ≡ i)) ⊎ ((e : Entry) → Among e before → eqb e.process i ≡ false)

  in_place : (i : ℕ) (before : List Entry) (e : Entry) → e.process ≡ i → e.undo ≡ false → Fits i before → is_out_of_place before e ≡ false
  in_place i [] e own is_step fits = is_step
  in_place i (x ∷ xs) e own is_step (inl last) =
      let same : x ≡ last.0 = (let both : x ∷ xs ≡ last.0 ∷ last.1 = last.2 in cc) in
      ap (λ u. u || (not (eqb x.process e.process) && list_any (λ y. eqb y.process e.process) xs)) is_step
      ∙ ap (λ t. not t && list_any (λ y. eqb y.process e.process) xs) (eq-eqb x.process e.process (ap (λ (f : Entry). f.process) same ∙ (last.3 ∙ sym own)))
  in_place i (x ∷ xs) e own is_step (inr other) =
      ap (λ u. u || (not (eqb x.process e.process) && list_any (λ y. eqb y.process e.process) xs)) is_step
      ∙ (ap (λ t. not (eqb x.process e.process) && t) (not_any (λ y. eqb y.process e.process) xs (λ y is. ap (eqb y.process) own ∙ other y (inr is))) ∙ and-false (not (eqb x.process e.process)))

  -- what a block of one process leaves to look at
  record Passes (n : ℕ) (order : List ℕ) (before rest : List Entry) (from : Option ℕ) : Type 0 where
    at : ℕ
    seen : List Entry
    away : NotIn order seen
    is : from ≡ not_serial_from at seen rest

  block : (i : ℕ) (order : List ℕ) → is_in i order ≡ false → (bs : List Entry) → ((b : Entry) → Among b bs → (b.process ≡ i) × (b.undo ≡ false))
      → (n : ℕ) (before rest : List Entry) → Fits i before → NotIn order before → Passes n order before rest (not_serial_from n before (bs ++ rest))
  block i order out [] each n before rest fits away = record { at = n; seen = before; away = away; is = refl }
  block i order out (b ∷ bs) each n before rest fits away =
      let own = each b (inl refl) in
      let next = block i order out bs (λ c is. each c (inr is)) (n + 1) (b ∷ before) rest (inl (b, before, refl, own.0)) (more own.0) in
      record {
        at = next.at;
        seen = next.seen;
        away = next.away;
        is = ap (λ t. cond t (Some n) (not_serial_from (n + 1) (b ∷ before) (bs ++ rest))) (in_place i before b own.0 own.1 fits) ∙ next.is;
      }
    where
      more : b.process ≡ i → NotIn order (b ∷ before)
      more own e (inl here) = ap (λ (f : Entry). is_in f.process order) (sym here) ∙ (ap (λ k. is_in k order) own ∙ out)
      more own e (inr later) = away e later

  blocks : (order : List ℕ) → Distinct order → (es : List Entry) → ((e : Entry) → Among e es → e.undo ≡ false) → (n : ℕ) (before : List Entry) → NotIn order before
      → not_serial_from n before (in_order order es) ≡ None
  blocks [] distinct es steps n before away = refl
  blocks (i ∷ order) distinct es steps n before away =
      let passed = block i order distinct.0 (of_process i es)
      (λ b is. let found = among-filter (λ (f : Entry). eqb f.process i) b es is in (eqb-true b.process i found.1, steps b found.0))
      n before (in_order order es) (inr (λ e is. (or_parts (eqb e.process i) (is_in e.process order) (away e is)).0)) (λ e is. (or_parts (eqb e.process i) (is_in e.process order) (away e is)).1) in
      passed.is ∙ blocks order distinct.1 es steps passed.at passed.seen passed.away

  pub reduces : Reduces table h
  reduces =
      let first = cancel_phase (length (acts h)) (acts h) in
      let cancelled = cancel-phase table courses h reducible in
      let last = orders table (ends h) (ends-distinct no_conflict courses h legal) (net h) all-ended (free_from [] (net h) refl) [] 1 refl in
      let lists : serial_phase (length first.list) (ends h) 1 first.list ≡ serial_phase (length (net h)) (ends h) 1 (net h) = ap (λ es. serial_phase (length es) (ends h) 1 es) cancelled.list in
      let nets : (trace_of (ends h) (acts h)).list ≡ in_order (ends h) (net h) = ap (λ (r : Trace). r.list) lists ∙ last.1 in
      let applies : applied_all table (trace_of (ends h) (acts h)).steps (acts h) ≡ Some (trace_of (ends h) (acts h)).list =
      ap (λ (r : Trace). applied_all table (first.steps ++ r.steps) (acts h)) lists
      ∙ (applied_all-append table first.steps (serial_phase (length (net h)) (ends h) 1 (net h)).steps (acts h) (net h) cancelled.applies
      ∙ (last.0 ∙ ap Some (sym nets))) in
      record {
        applies = applies;
        reduced = applied-steps_reduce table (trace_of (ends h) (acts h)).steps (acts h) (trace_of (ends h) (acts h)).list applies;
        serial = ap is_none (ap (λ es. not_serial_from 1 [] es) nets ∙ blocks (ends h) (ends-distinct no_conflict courses h legal) (net h) (net-steps_only table courses h) 1 [] (λ e is. absurd is));
        nets = nets;
      }

pub reduction-law : ReductionLaw
reduction-law table courses h symmetric reducible none = reduces table symmetric courses h reducible none

pub prefix-reducibility : PrefixReducibility
prefix-reducibility table plans g k good =
    let cs = courses_of plans in
    let done = completed-legal table plans good.symmetric good.good g (is_legal-prefix table cs g k good.legal) in
    reduces table good.symmetric cs (completed cs g) (reducible-legal cs table (completed cs g) done.0) done.1
