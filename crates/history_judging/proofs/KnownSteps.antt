-- The operations of the steps of plans that go on.
use Rattle.std.proofs.Common.{◌≡◌, ⊎_elim, ℕ, ◌<◌, Bool, true, false, not, eqb, ltb, if◌then◌else◌, List, [], ◌∷◌, ◌++◌, filter, get_or, sym, ap, ◌∙◌, subst}
use Rattle.std.specs.Bool.{IsTrue}
use Rattle.std.specs.List.{Contains, list_all, list_any}
use Rattle.std.proofs.lemmas.Bool.{false≢true, lt-ltb, ltb-true}
use Rattle.process_tree.specs.declared.entry.Entry.{Entry}
use Rattle.process_tree.specs.declared.plan.Plan.{Plan}
use Rattle.process_tree.specs.Order.{Each}
use Rattle.process_tree.specs.Recovery.{forward}
use Rattle.process_tree.specs.Shape.{commits, goes_on_to}
use Rattle.process_tree.proofs.Every.{Each-append}
use Rattle.process_tree.proofs.InTurn.{step_within}
use Rattle.schedule_model.specs.Course.{Course, course, courses_of, op_of, shape}
use Rattle.schedule_model.specs.Histories.{of_process, same_step, steps_of}
use Rattle.schedule_model.specs.Laws.{AreGood}
use Rattle.schedule_model.proofs.GoodPlans.{plan_or_none}
use Rattle.schedule_model.proofs.Members.{among-filter}
use Rattle.history_judging.specs.Keeping.{of_others, owed_with}
use Rattle.schedule_rules.specs.Recovering.{owed_by}
use Rattle.schedule_rules.proofs.Known.{all_or, op_known}
use Rattle.schedule_rules.proofs.ListTests.{each-among, each_from}

module _ (plans : List Plan) (n : ℕ) (known : (p : Plan) → Contains plans p → IsTrue (list_all (λ a. ltb a n) p.ops)) where
  -- a step that goes on has a known operation
  pub step_known : AreGood plans → (i : ℕ) (w : List ℕ) (op b : ℕ) → op ≡ op_of (courses_of plans) i b → goes_on_to (shape (courses_of plans) i) w b ≡ true → op < n
  step_known good i w op b is on =
      ⊎_elim
      (λ none. absurd (false≢true (ap (λ (c : Course). goes_on_to c.shape w b) (sym none) ∙ on)))
      (λ found.
      let p = found.0 in
      let goes = ap (λ (c : Course). goes_on_to c.shape w b) (sym found.2) ∙ on in
      op_known p (good p found.1) n (known p found.1) op b (is ∙ ap (λ (c : Course). get_or c.ops b 0) found.2) (step_within p.tree w b (good p found.1).tree goes))
      (plan_or_none plans i)

  -- where there is an operation, all that is read in a course is one
  read_known : (i b : ℕ) → 0 < n → op_of (courses_of plans) i b < n
  read_known i b some =
      ⊎_elim
      (λ none. subst (λ (c : Course). get_or c.ops b 0 < n) (sym none) some)
      (λ found. subst (λ (c : Course). get_or c.ops b 0 < n) (sym found.2) (ltb-true (get_or found.0.ops b 0) n (all_or (λ a. ltb a n) found.0.ops b 0 (known found.0 found.1) (lt-ltb 0 n some))))
      (plan_or_none plans i)

  owed_by-known : (i k : ℕ) (bs : List ℕ) → 0 < n → Each (λ (e : Entry). e.op < n) (owed_by (course (courses_of plans) i) k bs)
  owed_by-known i k [] some = tt
  owed_by-known i k (b ∷ bs) some = (read_known i b some, owed_by-known i k bs some)

  -- so is all that is owed after a step
  pub owed_with-known : (i : ℕ) (es owed : List Entry) (e : Entry) → Each (λ (x : Entry). x.op < n) owed → 0 < n
      → Each (λ (x : Entry). x.op < n) (owed_with (course (courses_of plans) i) es owed e)
  owed_with-known i es owed e each some = by_owed more (list_any (same_step e) owed) (commits (shape (courses_of plans) i) e.step) more_known
    where
      more : List Entry
      more = owed_by (course (courses_of plans) i) e.process (forward (shape (courses_of plans) i) (steps_of (of_process e.process es) ++ e.step ∷ []))

      more_known : Each (λ (x : Entry). x.op < n) more
      more_known = owed_by-known i e.process (forward (shape (courses_of plans) i) (steps_of (of_process e.process es) ++ e.step ∷ [])) some

      some_of : (p : Entry → Bool) → Each (λ (x : Entry). x.op < n) (filter p owed)
      some_of p = each_from (λ (x : Entry). x.op < n) (filter p owed) (λ x is. each-among (λ (y : Entry). y.op < n) x owed each (among-filter p x owed is).0)

      by_owed : (rest : List Entry) (r c : Bool) → Each (λ (x : Entry). x.op < n) rest
          → Each (λ (x : Entry). x.op < n) (if r then filter (λ s. not (same_step s e)) owed else (if c then of_others e.process owed ++ rest else owed))
      by_owed rest true c its = some_of (λ s. not (same_step s e))
      by_owed rest false true its = Each-append (λ (x : Entry). x.op < n) (of_others e.process owed) rest (some_of (λ x. not (eqb x.process e.process))) its
      by_owed rest false false its = each
