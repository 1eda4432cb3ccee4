-- A process has few acts: each undo takes back one of its steps, and its steps rise below how many there are.
use Rattle.std.proofs.Common.{◌≡◌, ℕ, ◌+◌, ◌*◌, ◌≤◌, Bool, true, false, cond, eqb, ltb, leb, List, [], ◌∷◌, ◌++◌, length, sym, refl, ap, ◌∙◌, subst, arith, append-nil}
use Rattle.std.specs.Bool.{IsTrue}
use Rattle.std.specs.List.{list_all}
use Rattle.std.proofs.lemmas.Bool.{and_parts, and_from, eqb-true, ltb-true, lt-ltb, leb-true, le-leb}
use Rattle.std.proofs.lemmas.List.Folds.{list_all-append}
use Rattle.std.proofs.lemmas.List.{length-append}
use Rattle.process_tree.specs.declared.entry.Entry.{Entry}
use Rattle.process_tree.specs.declared.plan.Plan.{Plan}
use Rattle.process_tree.specs.Shape.{goes_on_to}
use Rattle.process_tree.proofs.TreeLaws.{paths_lie_in_order}
use Rattle.process_tree.proofs.InTurn.{goes_within}
use Rattle.schedule_model.specs.declared.event.Event.{Event}
use Rattle.schedule_model.specs.declared.event.Event.TheVariants.{Start, Act, End}
use Rattle.schedule_model.specs.Course.{Course, course, courses_of, shape}
use Rattle.schedule_model.specs.Conflict.{no_conflict}
use Rattle.schedule_model.specs.Histories.{acts, of_process, net_of, net_steps, done_steps}
use Rattle.schedule_model.specs.OwnOrder.{goes_on, is_in_own_order}
use Rattle.schedule_model.specs.Legal.{may_come, is_legal}
use Rattle.schedule_model.specs.Laws.{AreGood, ActsAreFew}
use Rattle.schedule_model.proofs.Induction.{by_legal}
use Rattle.schedule_model.proofs.Appends.{acts-append, done_steps-append}
use Rattle.schedule_model.proofs.Snoc.{of_process-append, net_of-do, net_of-other, net_of-start, net_of-end, done_steps-do, done_steps-undo}
use Rattle.schedule_model.proofs.Rising.{Rising, done_steps-rising, step_goes_on}
use Rattle.schedule_model.proofs.Apart.{list_all-weaker}
use Rattle.schedule_model.proofs.Undoing.{undoes}
use Rattle.schedule_model.proofs.NoConflict.{legal-from_own_order}
use Rattle.schedule_model.proofs.GoodPlans.{good_if_goes_on}

module _ (courses : List Course) (i : ℕ) where
  -- acts and net entries of a process are twice its steps that ever took effect
  abbrev Balanced : List Event → Type 0
  Balanced h = length (of_process i (acts h)) + length (net_of h i) ≡ 2 * length (done_steps h i)

  same_counts : (g h : List Event) → of_process i (acts h) ≡ of_process i (acts g) → net_of h i ≡ net_of g i → done_steps h i ≡ done_steps g i → Balanced g → Balanced h
  same_counts g h one two three is = ap (λ es. length es + length (net_of h i)) one ∙ (ap (λ es. length (of_process i (acts g)) + length es) two ∙ (is ∙ ap (λ ds. 2 * length ds) (sym three)))

  pub acts_other : (h : List Event) (e : Entry) → eqb e.process i ≡ false → of_process i (acts (h ++ Act e ∷ [])) ≡ of_process i (acts h)
  acts_other h e other =
      ap (of_process i) (acts-append h (Act e ∷ []))
      ∙ (of_process-append i (acts h) (e ∷ []) ∙ (ap (λ t. of_process i (acts h) ++ cond t (e ∷ []) []) other ∙ append-nil (of_process i (acts h))))

  pub acts_own : (h : List Event) (e : Entry) → eqb e.process i ≡ true → length (of_process i (acts (h ++ Act e ∷ []))) ≡ length (of_process i (acts h)) + 1
  acts_own h e own =
      ap (λ es. length (of_process i es)) (acts-append h (Act e ∷ []))
      ∙ (ap length (of_process-append i (acts h) (e ∷ []) ∙ ap (λ t. of_process i (acts h) ++ cond t (e ∷ []) []) own)
      ∙ length-append (of_process i (acts h)) (e ∷ []))

  pub done_other : (h : List Event) (e : Entry) → eqb e.process i ≡ false → (u : Bool) → e.undo ≡ u → done_steps (h ++ Act e ∷ []) i ≡ done_steps h i
  done_other h e other true undo = done_steps-undo h e i undo
  done_other h e other false is_step =
      done_steps-append h (Act e ∷ []) i ∙ (ap (λ bs. done_steps h i ++ bs) (rw is_step (rw other refl)) ∙ append-nil (done_steps h i))

  balanced_own : (h : List Event) (e : Entry) → IsTrue (is_legal no_conflict courses h) → IsTrue (may_come no_conflict courses h (Act e))
      → eqb e.process i ≡ true → (u : Bool) → e.undo ≡ u → Balanced h → Balanced (h ++ Act e ∷ [])
  balanced_own h e legal may own true undo is =
      let same = eqb-true e.process i own in
      let one = acts_own h e own in
      let taken = undoes no_conflict courses h e legal undo may in
      let two : length (net_of h i) ≡ length (net_of (h ++ Act e ∷ []) i) + 1 =
      subst (λ k. length (net_of h k) ≡ length (net_of (h ++ Act e ∷ []) k) + 1) same (ap length taken.net ∙ length-append (net_of (h ++ Act e ∷ []) e.process) (taken.last ∷ [])) in
      let three = ap length (done_steps-undo h e i undo) in
      omega arith
  balanced_own h e legal may own false is_step is =
      let same = eqb-true e.process i own in
      let one = acts_own h e own in
      let two : length (net_of (h ++ Act e ∷ []) i) ≡ length (net_of h i) + 1 =
      subst (λ k. length (net_of (h ++ Act e ∷ []) k) ≡ length (net_of h k) + 1) same (ap length (net_of-do h e is_step) ∙ length-append (net_of h e.process) (e ∷ [])) in
      let three : length (done_steps (h ++ Act e ∷ []) i) ≡ length (done_steps h i) + 1 =
      subst (λ k. length (done_steps (h ++ Act e ∷ []) k) ≡ length (done_steps h k) + 1) same (ap length (done_steps-do h e is_step) ∙ length-append (done_steps h e.process) (e.step ∷ [])) in
      omega arith

  balanced_act : (h : List Event) (e : Entry) → IsTrue (is_legal no_conflict courses h) → IsTrue (may_come no_conflict courses h (Act e))
      → (own : Bool) → eqb e.process i ≡ own → Balanced h → Balanced (h ++ Act e ∷ [])
  balanced_act h e legal may true own is = balanced_own h e legal may own e.undo refl is
  balanced_act h e legal may false other is = same_counts h (h ++ Act e ∷ []) (acts_other h e other) (net_of-other h e i other) (done_other h e other e.undo refl) is

  balanced_more : (h : List Event) (e : Event) → IsTrue (is_legal no_conflict courses h) → IsTrue (may_come no_conflict courses h e) → Balanced h → Balanced (h ++ e ∷ [])
  balanced_more h (Start k) legal may is =
      same_counts h (h ++ Start k ∷ []) (ap (of_process i) (acts-append h (Start k ∷ []) ∙ append-nil (acts h))) (net_of-start h k i)
      (done_steps-append h (Start k ∷ []) i ∙ append-nil (done_steps h i)) is
  balanced_more h (Act e) legal may is = balanced_act h e legal may (eqb e.process i) refl is
  balanced_more h (End k) legal may is =
      same_counts h (h ++ End k ∷ []) (ap (of_process i) (acts-append h (End k ∷ []) ∙ append-nil (acts h))) (net_of-end h k i)
      (done_steps-append h (End k ∷ []) i ∙ append-nil (done_steps h i)) is

  balanced : (h : List Event) → IsTrue (is_legal no_conflict courses h) → Balanced h
  balanced h legal = by_legal no_conflict courses Balanced balanced_more refl h legal

-- rising numbers below n are no more than n
few_rising : (n m : ℕ) (ds : List ℕ) → Rising ds → IsTrue (list_all (λ d. leb m d) ds) → IsTrue (list_all (λ d. ltb d n) ds) → m ≤ n → m + length ds ≤ n
few_rising n m [] rising low high le = omega arith
few_rising n m (d ∷ ds) rising low high le =
    let lows = and_parts (leb m d) (list_all (λ d. leb m d) ds) low in
    let highs = and_parts (ltb d n) (list_all (λ d. ltb d n) ds) high in
    let l = leb-true m d lows.0 in
    let less = ltb-true d n highs.0 in
    let rest = few_rising n (d + 1) ds rising.1 (list_all-weaker (λ y. ltb d y) (λ y. leb (d + 1) y) ds (λ y is. let up = ltb-true d y is in le-leb (d + 1) y (omega arith)) rising.0) highs.1 (omega arith) in
    omega arith

module _ (plans : List Plan) (good : AreGood plans) (i : ℕ) where
  abbrev courses' : List Course
  courses' = courses_of plans

  abbrev steps_in : ℕ
  steps_in = length (course courses' i).ops

  -- each step that took effect is one of the process
  abbrev Within : List Event → Type 0
  Within h = IsTrue (list_all (λ d. ltb d steps_in) (done_steps h i))

  step_within : (h : List Event) (b : ℕ) → IsTrue (goes_on courses' h i b) → ltb b steps_in ≡ true
  step_within h b goes =
      let on = (and_parts (goes_on_to (shape courses' i) (net_steps h i) b) (list_all (λ d. ltb d b) (done_steps h i)) goes).0 in
      let plan = good_if_goes_on plans i (net_steps h i) b good on in
      let less = goes_within (shape courses' i) (length (shape courses' i).kinds) (net_steps h i) b (paths_lie_in_order (shape courses' i) plan.tree).within on in
      let many = plan.operations in
      lt-ltb b steps_in (omega arith)

  within_act : (h : List Event) (e : Entry) → IsTrue (may_come no_conflict courses' h (Act e)) → (own u : Bool) → eqb e.process i ≡ own → e.undo ≡ u → Within h → Within (h ++ Act e ∷ [])
  within_act h e may own true is undo within = subst (λ ds. IsTrue (list_all (λ d. ltb d steps_in) ds)) (sym (done_steps-undo h e i undo)) within
  within_act h e may false false is is_step within = subst (λ ds. IsTrue (list_all (λ d. ltb d steps_in) ds)) (sym (done_other courses' i h e is false is_step)) within
  within_act h e may true false is is_step within =
      let same = eqb-true e.process i is in
      let goes = subst (λ k. IsTrue (goes_on courses' h k e.step)) same (step_goes_on no_conflict courses' h e is_step may) in
      let done : done_steps (h ++ Act e ∷ []) i ≡ done_steps h i ++ e.step ∷ [] = subst (λ k. done_steps (h ++ Act e ∷ []) k ≡ done_steps h k ++ e.step ∷ []) same (done_steps-do h e is_step) in
      subst (λ ds. IsTrue (list_all (λ d. ltb d steps_in) ds)) (sym done)
      (list_all-append (λ d. ltb d steps_in) (done_steps h i) (e.step ∷ []) ∙ and_from (list_all (λ d. ltb d steps_in) (done_steps h i)) (list_all (λ d. ltb d steps_in) (e.step ∷ [])) within
      (and_from (ltb e.step steps_in) true (step_within h e.step goes) refl))

  within_more : (h : List Event) (e : Event) → IsTrue (may_come no_conflict courses' h e) → Within h → Within (h ++ e ∷ [])
  within_more h (Start k) may within = subst (λ ds. IsTrue (list_all (λ d. ltb d steps_in) ds)) (sym (done_steps-append h (Start k ∷ []) i ∙ append-nil (done_steps h i))) within
  within_more h (Act e) may within = within_act h e may (eqb e.process i) e.undo refl refl within
  within_more h (End k) may within = subst (λ ds. IsTrue (list_all (λ d. ltb d steps_in) ds)) (sym (done_steps-append h (End k ∷ []) i ∙ append-nil (done_steps h i))) within

  pub few_acts : (h : List Event) → IsTrue (is_in_own_order courses' h) → length (of_process i (acts h)) ≤ 2 * steps_in
  few_acts h own =
      let legal = legal-from_own_order courses' h own in
      let within = by_legal no_conflict courses' Within (λ g e before may is. within_more g e may is) refl h legal in
      let few = few_rising steps_in 0 (done_steps h i) (done_steps-rising no_conflict courses' h i legal)
      (list_all-weaker (λ d. ltb d steps_in) (λ d. leb 0 d) (done_steps h i) (λ d is. le-leb 0 d (omega arith)) within) within (omega arith) in
      let twice = balanced courses' i h legal in
      omega arith

pub acts-few : ActsAreFew
acts-few plans h i good own = few_acts plans good i h own
