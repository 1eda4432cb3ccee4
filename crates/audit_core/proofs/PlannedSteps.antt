-- What a history in own order does is of steps of its plans, and of processes that started.
use Rattle.std.proofs.Common.{◌≡◌, inl, inr, ⊎_elim, ℕ, ◌+◌, ◌<◌, ◌≤◌, Bool, true, false, ltb, nat_eq, ◌||◌, if◌then◌else◌, List, [], ◌∷◌, ◌++◌, length, get_or, sym, refl, ap, ◌∙◌, subst, arith, append-nil}
use Rattle.std.specs.Bool.{IsTrue}
use Rattle.std.specs.List.{list_all, list_any, Contains}
use Rattle.std.proofs.lemmas.Bool.{and_parts, eqb-true, ltb-true}
use Rattle.std.proofs.lemmas.List.Elements.{All-contains}
use Rattle.process_tree.specs.declared.entry.Entry.{Entry}
use Rattle.process_tree.specs.declared.plan.Plan.{Plan}
use Rattle.process_tree.specs.Conflicts.{Access}
use Rattle.process_tree.specs.Order.{Each}
use Rattle.process_tree.specs.Shape.{goes_on_to}
use Rattle.process_tree.proofs.TreeLaws.{paths_lie_in_order}
use Rattle.process_tree.proofs.InTurn.{goes_within}
use Rattle.schedule_model.specs.declared.event.Event.{Event}
use Rattle.schedule_model.specs.declared.event.Event.TheVariants.{Start, Act, End}
use Rattle.schedule_model.specs.Conflict.{no_conflict}
use Rattle.schedule_model.specs.Completion.{completion, completed}
use Rattle.schedule_model.specs.Course.{Course, course, courses_of, shape}
use Rattle.schedule_model.specs.Histories.{acts, net_acts, net_of, net_steps, done_steps, starts, takes_back}
use Rattle.schedule_model.specs.Laws.{AreGood, IsPlanned}
use Rattle.schedule_model.specs.Legal.{is_legal, may_come}
use Rattle.schedule_model.specs.OwnOrder.{goes_on, is_in_own_order}
use Rattle.schedule_model.proofs.Appends.{acts-append, starts-append}
use Rattle.schedule_model.proofs.CompletionLaws.{own_order-completion}
use Rattle.schedule_model.proofs.Entries.{HasPlansAccess, acts-of_plans}
use Rattle.schedule_model.proofs.GoodPlans.{good_if_goes_on, plan_or_none}
use Rattle.schedule_model.proofs.Induction.{by_legal}
use Rattle.schedule_model.proofs.Members.{Among, among-append, among-right, contains-from_among}
use Rattle.schedule_model.proofs.NoConflict.{legal-from_own_order}
use Rattle.schedule_model.proofs.Prefixes.{legal-numbered}
use Rattle.schedule_model.proofs.Rising.{step_goes_on}
use Rattle.schedule_model.proofs.Started.{among_net_of, acts-started}
use Rattle.schedule_model.proofs.Undoing.{undoes}
use Rattle.schedule_model.proofs.WithinLimits.{starts-completion}
use Rattle.schedule_rules.proofs.Known.{all_at}
use Rattle.dependence_model.specs.declared.placed.Placed.{Placed}
use Rattle.dependence_model.specs.Dependence.{placed_from}
use Rattle.audit_core.specs.Taking.{AreAllKnown}
use Rattle.audit_core.specs.Arrows.{AreFew, columns}
use Rattle.audit_core.specs.Audits.{most_events}
use Rattle.process_tree.specs.Conflicts.{Table, operations_in}

-- a net entry took effect
among-net : (e : Entry) (es : List Entry) → Among e (net_acts es) → Among e es
among-net e [] is = is
among-net e (x ∷ es) is = by (x.undo || list_any (λ f. takes_back f x) es) (among-net e es) is
  where
    by : (t : Bool) → (Among e (net_acts es) → Among e es) → Among e (if t then net_acts es else x ∷ net_acts es) → Among e (x ∷ es)
    by true rest later = inr (rest later)
    by false rest (inl here) = inl here
    by false rest (inr later) = inr (rest later)

module _ (plans : List Plan) (good : AreGood plans) where
  abbrev cs : List Course
  cs = courses_of plans

  abbrev pub HasStep : Entry → Type 0
  HasStep e = e.step < length (course cs e.process).ops

  abbrev StepsOf : List Event → Type 0
  StepsOf h = (e : Entry) → Among e (acts h) → HasStep e

  forward-step : (h : List Event) (e : Entry) → IsTrue (goes_on cs h e.process e.step) → HasStep e
  forward-step h e goes =
      let i = e.process in
      let on = (and_parts (goes_on_to (shape cs i) (net_steps h i) e.step) (list_all (λ d. ltb d e.step) (done_steps h i)) goes).0 in
      let plan = good_if_goes_on plans i (net_steps h i) e.step good on in
      let less = goes_within (shape cs i) (length (shape cs i).kinds) (net_steps h i) e.step (paths_lie_in_order (shape cs i) plan.tree).within on in
      let many = plan.operations in
      omega (arith, less, many)

  undo-step : (h : List Event) (e : Entry) → IsTrue (is_legal no_conflict cs h) → IsTrue (may_come no_conflict cs h (Act e)) → e.undo ≡ true → StepsOf h → HasStep e
  undo-step h e legal may undo was =
      let taken = undoes no_conflict cs h e legal undo may in
      let there : Among taken.last (net_of h e.process) = subst (Among taken.last) (sym taken.net) (among-right taken.last (net_of (h ++ Act e ∷ []) e.process) (taken.last ∷ []) (inl refl)) in
      let in_net = among_net_of h e.process taken.last there in
      let less = was taken.last (among-net taken.last (acts h) in_net.0) in
      let parts = and_parts (nat_eq taken.last.process e.process) (nat_eq taken.last.step e.step) taken.same in
      subst (λ b. b < length (course cs e.process).ops) (eqb-true taken.last.step e.step parts.1)
      (subst (λ i. taken.last.step < length (course cs i).ops) (eqb-true taken.last.process e.process parts.0) less)

  act-step : (h : List Event) (e : Entry) → IsTrue (is_legal no_conflict cs h) → IsTrue (may_come no_conflict cs h (Act e)) → StepsOf h → (u : Bool) → e.undo ≡ u → HasStep e
  act-step h e legal may was true is = undo-step h e legal may is was
  act-step h e legal may was false is = forward-step h e (step_goes_on no_conflict cs h e is may)

  steps-more : (h : List Event) (a : Event) → IsTrue (is_legal no_conflict cs h) → IsTrue (may_come no_conflict cs h a) → StepsOf h → StepsOf (h ++ a ∷ [])
  steps-more h (Start k) legal may was e is = was e (subst (Among e) (acts-append h (Start k ∷ []) ∙ append-nil (acts h)) is)
  steps-more h (End k) legal may was e is = was e (subst (Among e) (acts-append h (End k ∷ []) ∙ append-nil (acts h)) is)
  steps-more h (Act a) legal may was e is =
      ⊎_elim (λ before. was e before) (λ now. by_now now) (among-append e (acts h) (a ∷ []) (subst (Among e) (acts-append h (Act a ∷ [])) is))
    where
      by_now : Among e (a ∷ []) → HasStep e
      by_now (inl same) = subst HasStep same (act-step h a legal may was a.undo refl)
      by_now (inr none) = absurd none

  -- each act is of a step of its process
  acts-have_steps : (h : List Event) → IsTrue (is_legal no_conflict cs h) → (e : Entry) → Among e (acts h) → HasStep e
  acts-have_steps h legal = by_legal no_conflict cs StepsOf (λ g a before may was. steps-more g a before may was) (λ e is. absurd is) h legal

  module _ (n : ℕ) (known : (p : Plan) → Contains plans p → IsTrue (list_all (λ a. ltb a n) p.ops)) where
    -- so its operation is known
    act-known : (h : List Event) → IsTrue (is_legal no_conflict cs h) → (e : Entry) → Among e (acts h) → e.op < n
    act-known h legal e is =
        let access = All-contains (HasPlansAccess cs) (acts h) e (acts-of_plans no_conflict cs h legal) (contains-from_among e (acts h) is) in
        let op = ap (λ (a : Access). a.op) access in
        let step = acts-have_steps h legal e is in
        ⊎_elim
        (λ none. absurd (no_step e.step (subst (λ (c : Course). e.step < length c.ops) none step)))
        (λ found.
        subst (λ (a : ℕ). a < n) (sym (op ∙ ap (λ (c : Course). get_or c.ops e.step 0) found.2))
        (ltb-true (get_or found.0.ops e.step 0) n (all_at (λ a. ltb a n) found.0.ops e.step 0 (known found.0 found.1) (subst (λ (c : Course). e.step < length c.ops) found.2 step))))
        (plan_or_none plans e.process)
      where
        no_step : (b : ℕ) → b < 0 → ⊥
        no_step b less = omega (arith, less)

-- who started is among the events
starts_few : (h : List Event) → length (starts h) ≤ length h
starts_few [] = omega arith
starts_few (Start i ∷ h) = let more = starts_few h in omega (arith, more)
starts_few (Act e ∷ h) = let more = starts_few h in omega (arith, more)
starts_few (End i ∷ h) = let more = starts_few h in omega (arith, more)

placed-each : (P : Entry → Type 0) (n : ℕ) (es : List Entry) → ((e : Entry) → Among e es → P e) → Each (λ (x : Placed). P x.entry) (placed_from n es)
placed-each P n [] all = tt
placed-each P n (e ∷ es) all = (all e (inl refl), placed-each P (n + 1) es (λ f is. all f (inr is)))

placed-known : (table : Table) (n : ℕ) (es : List Entry) → ((e : Entry) → Among e es → e.op < operations_in table) → AreAllKnown table (placed_from n es)
placed-known table n [] all = tt
placed-known table n (e ∷ es) all = (all e (inl refl), placed-known table (n + 1) es (λ f is. all f (inr is)))

module _ (plans : List Plan) (h : List Event) where
  -- of the schedule of a completed history all operations are known
  pub schedule-known : (table : Table) → IsPlanned (operations_in table) plans h → IsTrue (is_in_own_order (courses_of plans) h)
      → AreAllKnown table (placed_from 1 (acts (completed (courses_of plans) h)))
  schedule-known table planned own =
      let legal = legal-from_own_order (courses_of plans) (completed (courses_of plans) h) (own_order-completion plans h planned.good own).0 in
      placed-known table 1 (acts (completed (courses_of plans) h)) (act-known plans planned.good (operations_in table) planned.known (completed (courses_of plans) h) legal)

  -- and the processes are those that started before it was completed
  pub schedule-few : (n : ℕ) → IsPlanned n plans h → IsTrue (is_in_own_order (courses_of plans) h) → length h ≤ most_events
      → AreFew (placed_from 1 (acts (completed (courses_of plans) h)))
  schedule-few n planned own few =
      let cs = courses_of plans in
      let legal = legal-from_own_order cs (completed cs h) (own_order-completion plans h planned.good own).0 in
      let count = starts_few h in
      placed-each (λ (e : Entry). e.process < columns) 1 (acts (completed cs h)) (λ e is.
      let number = legal-numbered no_conflict cs (completed cs h) legal e.process (acts-started no_conflict cs (completed cs h) legal e is) in
      let same = ap length (starts-append h (completion cs h) ∙ (ap (λ is. starts h ++ is) (starts-completion cs h) ∙ append-nil (starts h))) in
      omega (arith, number.1, same, count, few))
