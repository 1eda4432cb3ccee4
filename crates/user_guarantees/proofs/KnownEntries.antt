-- Whatever stands, runs, is owed or is pending in a session is a step of its process, with the access that its plan gives it.
use Rattle.std.proofs.Common.{◌≡◌, inl, inr, ⊎_elim, ℕ, zero, suc, ◌<◌, Bool, true, false, not, if◌then◌else◌, eqb, ltb, ◌&&◌, List, [], ◌∷◌, ◌++◌, length, map, take, Option, Some, None, sym, refl, ap, subst, arith}
use Rattle.std.specs.Bool.{IsTrue}
use Rattle.std.specs.List.{list_all}
use Rattle.std.proofs.lemmas.Bool.{and_parts, eqb-true}
use Rattle.process_tree.specs.Entries.{access_of}
use Rattle.process_tree.specs.Conflicts.{same_access}
use Rattle.process_tree.specs.Recovery.{forward}
use Rattle.process_tree.specs.Shape.{Shape, fixed_len, goes_on_to, greatest, last_path, next_steps, owed_from, with_rest}
use Rattle.process_tree.specs.declared.entry.Entry.{Entry}
use Rattle.process_tree.specs.declared.plan.Plan.{Plan}
use Rattle.process_tree.proofs.InTurn.{goes_within, greatest_is}
use Rattle.process_tree.proofs.TreeLaws.{paths_lie_in_order}
use Rattle.schedule_model.specs.declared.event.Event.{Event}
use Rattle.schedule_model.specs.declared.event.Event.TheVariants.{Start, Act, End}
use Rattle.schedule_model.specs.Course.{Course, access_at, course, courses_of, shape}
use Rattle.schedule_model.specs.Conflict.{no_conflict}
use Rattle.schedule_model.specs.Histories.{doing, is_active, net, net_of, net_steps, done_steps, same_step, undoing}
use Rattle.schedule_model.specs.Laws.{AreGood}
use Rattle.schedule_model.specs.Legal.{is_legal, may_come}
use Rattle.schedule_model.specs.OwnOrder.{goes_on, is_of_last, keeps_order}
use Rattle.schedule_model.specs.Recovery.{backward_entries}
use Rattle.schedule_model.proofs.CompletionFirst.{net-of_plans}
use Rattle.schedule_model.proofs.GoodPlans.{good_if_goes_on}
use Rattle.schedule_model.proofs.Induction.{by_legal}
use Rattle.schedule_model.proofs.Members.{Among, among-append, among-filter, among-map, among-right}
use Rattle.schedule_model.proofs.Rising.{step_goes_on}
use Rattle.schedule_model.proofs.Snoc.{net-do, net-end, net-start, net-undo}
use Rattle.schedule_model.proofs.Started.{among_net_of}
use Rattle.schedule_model.proofs.Undoing.{ends_with}
use Rattle.machine_model.proofs.PendingFree.{in_whole}

module _ (plans : List Plan) (good : AreGood plans) where
  abbrev cs : List Course
  cs = courses_of plans

  -- b is a step of process i
  abbrev pub IsStepOf : ℕ → ℕ → Type 0
  IsStepOf i b = b < length (course (courses_of plans) i).ops

  -- an entry is of a step of its process, with its access
  abbrev pub IsKnown : Entry → Type 0
  IsKnown x = (access_of x ≡ access_at (courses_of plans) x.process x.step) × IsStepOf x.process x.step

  -- a step that goes on is one of the process's
  pub goes_on-step : (i : ℕ) (w : List ℕ) (b : ℕ) → goes_on_to (shape cs i) w b ≡ true → IsStepOf i b
  goes_on-step i w b on =
      let plan = good_if_goes_on plans i w b good on in
      let few = goes_within (shape cs i) (length (shape cs i).kinds) w b (paths_lie_in_order (shape cs i) plan.tree).within on in
      let same = plan.operations in
      omega arith

  -- Steps that are owed go on from somewhere.
  abbrev GoesOnSomewhere : Shape → ℕ → Type 0
  GoesOnSomewhere t b = (w : List ℕ) × (goes_on_to t w b ≡ true)

  last_path-goes : (n : ℕ) (t : Shape) (v : List ℕ) (b : ℕ) → Among b (last_path n t v) → GoesOnSomewhere t b
  last_path-goes zero t v b is = absurd is
  last_path-goes (suc n) t v b is = by_next (greatest (next_steps t v)) refl is (λ d later. last_path-goes n t (v ++ d ∷ []) b later)
    where
      by_next : (o : Option ℕ) → greatest (next_steps t v) ≡ o → Among b (with_rest (λ d. last_path n t (v ++ d ∷ [])) o)
          → ((d : ℕ) → Among b (last_path n t (v ++ d ∷ [])) → GoesOnSomewhere t b) → GoesOnSomewhere t b
      by_next None at is' rest = absurd is'
      by_next (Some d) at (inl same) rest = (v, subst (λ x. goes_on_to t v x ≡ true) same (greatest_is (next_steps t v) d at))
      by_next (Some d) at (inr later) rest = rest d later

  owed-goes : (t : Shape) (w : List ℕ) (fixed b : ℕ) → Among b (owed_from t w fixed) → GoesOnSomewhere t b
  owed-goes t w fixed b is = by_fixed (eqb fixed 0) is
    where
      by_fixed : (z : Bool) → Among b (if z then [] else last_path (length t.kinds) t (take fixed w)) → GoesOnSomewhere t b
      by_fixed true none = absurd none
      by_fixed false some = last_path-goes (length t.kinds) t (take fixed w) b some

  known_doing : (i b : ℕ) → IsStepOf i b → IsKnown (doing cs i b)
  known_doing i b step = (refl, step)

  -- what process i owes is known, whatever it has done
  pub known_owed : (i : ℕ) (w : List ℕ) (x : Entry) → Among x (map (doing cs i) (forward (shape cs i) w)) → IsKnown x × (x.process ≡ i)
  known_owed i w x is =
      let found = among-map (doing cs i) x (forward (shape cs i) w) is in
      let goes = owed-goes (shape cs i) w (fixed_len (shape cs i) w) found.0 found.1 in
      (subst IsKnown found.2 (known_doing i found.0 (goes_on-step i goes.0 found.0 goes.1)), ap (λ (e : Entry). e.process) (sym found.2))

  -- What stands is known.
  abbrev NetSteps : List Event → Type 0
  NetSteps h = (x : Entry) → Among x (net h) → IsStepOf x.process x.step

  act_more : (h : List Event) (e : Entry) (u : Bool) → e.undo ≡ u → IsTrue (may_come no_conflict cs h (Act e)) → NetSteps h → NetSteps (h ++ Act e ∷ [])
  act_more h e true undo may was x is = was x (among-filter (λ (f : Entry). not (same_step f e)) x (net h) (subst (Among x) (net-undo h e undo) is)).0
  act_more h e false is_step may was x is = ⊎_elim (λ before. was x before) by_now (among-append x (net h) (e ∷ []) (subst (Among x) (net-do h e is_step) is))
    where
      by_now : Among x (e ∷ []) → IsStepOf x.process x.step
      by_now (inl same) =
          let goes = step_goes_on no_conflict cs h e is_step may in
          subst (λ (f : Entry). IsStepOf f.process f.step) same
          (goes_on-step e.process (net_steps h e.process) e.step (and_parts (goes_on_to (shape cs e.process) (net_steps h e.process) e.step) (list_all (λ d. ltb d e.step) (done_steps h e.process)) goes).0)
      by_now (inr none) = absurd none

  one_more : (h : List Event) (e : Event) → IsTrue (may_come no_conflict cs h e) → NetSteps h → NetSteps (h ++ e ∷ [])
  one_more h (Start k) may was x is = was x (subst (Among x) (net-start h k) is)
  one_more h (Act e) may was x is = act_more h e e.undo refl may was x is
  one_more h (End k) may was x is = was x (subst (Among x) (net-end h k) is)

  pub known_net : (h : List Event) → IsTrue (is_legal no_conflict cs h) → (x : Entry) → Among x (net h) → IsKnown x
  known_net h legal x is =
      (net-of_plans plans good h legal x is, by_legal no_conflict cs NetSteps (λ g e before may was. one_more g e may was) (λ f none. absurd none) h legal x is)

  -- A step that keeps own order is known, and so is an undo.
  pub step-keeps : (h : List Event) (i b : ℕ) → IsTrue (keeps_order cs h (Act (doing cs i b))) → IsStepOf i b
  step-keeps h i b keeps =
      goes_on-step i (net_steps h i) b
      (and_parts (goes_on_to (shape cs i) (net_steps h i) b) (list_all (λ d. ltb d b) (done_steps h i))
      (and_parts (is_active h i && same_access (access_at cs i b) (access_at cs i b)) (goes_on cs h i b) keeps).1).0

  pub undo-keeps : (h : List Event) (i b : ℕ) → IsTrue (is_legal no_conflict cs h) → IsTrue (keeps_order cs h (Act (undoing (doing cs i b)))) → IsStepOf i b
  undo-keeps h i b legal keeps =
      let ends = ends_with (undoing (doing cs i b)) (backward_entries cs h i)
      (and_parts (is_active h i && same_access (access_at cs i b) (access_at cs i b)) (is_of_last (backward_entries cs h i) (undoing (doing cs i b))) keeps).1 in
      let there = subst (Among ends.last) (sym ends.is) (among-right ends.last ends.front (ends.last ∷ []) (inl refl)) in
      let stands = among_net_of h i ends.last (in_whole ends.last (fixed_len (shape cs i) (net_steps h i)) (net_of h i) there) in
      let same = and_parts (eqb ends.last.process i) (eqb ends.last.step b) ends.same in
      subst (λ c. IsStepOf i c) (eqb-true ends.last.step b same.1) (subst (λ k. IsStepOf k ends.last.step) stands.1 (known_net h legal ends.last stands.0).1)
