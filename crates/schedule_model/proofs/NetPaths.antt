-- In own order what stands of a process is the beginning of a whole path, and the first step that it owes is above each
-- that took effect.
use Rattle.std.proofs.Common.{◌≡◌, inl, inr, ℕ, ◌+◌, ◌<◌, Bool, true, false, cond, eqb, ltb, ◌&&◌, List, [], ◌∷◌, ◌++◌, length, map, take, sym, refl, ap, ◌∙◌, subst, arith, append-nil, length-append}
use Rattle.std.specs.Bool.{IsTrue}
use Rattle.std.specs.List.{list_all}
use Rattle.std.proofs.lemmas.Bool.{and_parts, and_from, eqb-true, ltb-true, lt-ltb}
use Rattle.std.proofs.lemmas.List.{map-append}
use Rattle.std.proofs.lemmas.List.Folds.{list_all-append}
use Rattle.process_tree.specs.declared.entry.Entry.{Entry}
use Rattle.process_tree.specs.declared.plan.Plan.{Plan}
use Rattle.process_tree.specs.Shape.{Shape, commits_after, fixed_len, goes_on_to, IsBranch}
use Rattle.process_tree.specs.Recovery.{forward}
use Rattle.process_tree.proofs.Along.{before_goes, same_end}
use Rattle.process_tree.proofs.InTurn.{goes_up}
use Rattle.process_tree.proofs.TreeLaws.{paths_lie_in_order}
use Rattle.process_tree.proofs.Fixed.{fixed_more}
use Rattle.schedule_model.specs.declared.event.Event.{Event}
use Rattle.schedule_model.specs.declared.event.Event.TheVariants.{Start, Act, End}
use Rattle.schedule_model.specs.Course.{Course, courses_of, shape}
use Rattle.schedule_model.specs.Conflict.{no_conflict}
use Rattle.schedule_model.specs.Histories.{doing, net_of, net_steps, done_steps, steps_of}
use Rattle.schedule_model.specs.Recovery.{owed, owed_steps}
use Rattle.schedule_model.specs.OwnOrder.{goes_on}
use Rattle.schedule_model.specs.Legal.{may_come, is_legal}
use Rattle.schedule_model.specs.Laws.{AreGood}
use Rattle.schedule_model.proofs.Induction.{by_legal}
use Rattle.schedule_model.proofs.Appends.{done_steps-append}
use Rattle.schedule_model.proofs.Snoc.{net_of-other, net_of-start, net_of-end, done_steps-do, done_steps-undo}
use Rattle.schedule_model.proofs.Recoveries.{net_steps-do}
use Rattle.schedule_model.proofs.Rising.{step_goes_on}
use Rattle.schedule_model.proofs.Apart.{list_all-weaker}
use Rattle.schedule_model.proofs.Undoing.{undoes, owed_without}
use Rattle.schedule_model.proofs.GoodPlans.{HasGoodPlan, good_if_goes_on}
use Rattle.schedule_model.proofs.OwedPaths.{first_owed, below_owed}
use Rattle.schedule_model.proofs.FewActs.{done_other}

branch-shrinks : (t : Shape) (w : List ℕ) (b : ℕ) → IsBranch t (w ++ b ∷ []) → IsBranch t w
branch-shrinks t w b (inl none) = let l = ap length none in let m = length-append w (b ∷ []) in absurd (omega arith)
branch-shrinks t w b (inr is) =
    let same = same_end w is.0 b is.1 is.2 in
    before_goes t w is.1 (ap (λ v. goes_on_to t v is.1) same.0 ∙ is.3)

-- entries of these steps have these steps
pub steps_of-doing : (courses : List Course) (i : ℕ) (bs : List ℕ) → steps_of (map (doing courses i) bs) ≡ bs
steps_of-doing courses i [] = refl
steps_of-doing courses i (b ∷ bs) = ap (λ cs. b ∷ cs) (steps_of-doing courses i bs)

module _ (courses : List Course) (i : ℕ) where
  abbrev s : Shape
  s = shape courses i

  abbrev Along : List Event → Type 0
  Along h = IsBranch s (net_steps h i)

  along-same : (g h : List Event) → net_of h i ≡ net_of g i → Along g → Along h
  along-same g h same is = subst (λ es. IsBranch s (steps_of es)) (sym same) is

  along-act : (h : List Event) (e : Entry) → IsTrue (is_legal no_conflict courses h) → IsTrue (may_come no_conflict courses h (Act e))
      → (own u : Bool) → eqb e.process i ≡ own → e.undo ≡ u → Along h → Along (h ++ Act e ∷ [])
  along-act h e legal may false u other undo is = along-same h (h ++ Act e ∷ []) (net_of-other h e i other) is
  along-act h e legal may true true own undo is =
      let same = eqb-true e.process i own in
      let taken = undoes no_conflict courses h e legal undo may in
      let net_is : net_steps h i ≡ net_steps (h ++ Act e ∷ []) i ++ taken.last.step ∷ [] =
      subst (λ k. net_steps h k ≡ net_steps (h ++ Act e ∷ []) k ++ taken.last.step ∷ []) same
      (ap steps_of taken.net ∙ map-append (λ (f : Entry). f.step) (net_of (h ++ Act e ∷ []) e.process) (taken.last ∷ [])) in
      branch-shrinks s (net_steps (h ++ Act e ∷ []) i) taken.last.step (subst (IsBranch s) net_is is)
  along-act h e legal may true false own is_step is =
      let same = eqb-true e.process i own in
      let goes = subst (λ k. IsTrue (goes_on courses h k e.step)) same (step_goes_on no_conflict courses h e is_step may) in
      let on = (and_parts (goes_on_to s (net_steps h i) e.step) (list_all (λ d. ltb d e.step) (done_steps h i)) goes).0 in
      inr (net_steps h i, e.step, subst (λ k. net_steps (h ++ Act e ∷ []) k ≡ net_steps h k ++ e.step ∷ []) same (net_steps-do h e is_step), on)

  along-more : (h : List Event) (e : Event) → IsTrue (is_legal no_conflict courses h) → IsTrue (may_come no_conflict courses h e) → Along h → Along (h ++ e ∷ [])
  along-more h (Start k) legal may is = along-same h (h ++ Start k ∷ []) (net_of-start h k i) is
  along-more h (Act e) legal may is = along-act h e legal may (eqb e.process i) e.undo refl refl is
  along-more h (End k) legal may is = along-same h (h ++ End k ∷ []) (net_of-end h k i) is

  -- what stands goes along a whole path
  pub net-branch : (h : List Event) → IsTrue (is_legal no_conflict courses h) → IsBranch s (net_steps h i)
  net-branch h legal = by_legal no_conflict courses Along along-more (inl refl) h legal

  -- each step that took effect is below the first that is owed
  abbrev pub BelowOwed : List Event → Type 0
  BelowOwed h = (b : ℕ) (rest : List ℕ) → owed_steps courses h i ≡ b ∷ rest → IsTrue (list_all (λ d. ltb d b) (done_steps h i))

  below-same : (g h : List Event) → owed_steps courses h i ≡ owed_steps courses g i → done_steps h i ≡ done_steps g i → BelowOwed g → BelowOwed h
  below-same g h owes done is b rest next = subst (λ ds. IsTrue (list_all (λ d. ltb d b) ds)) (sym done) (is b rest (sym owes ∙ next))

  owed-by_net : (g h : List Event) → net_of h i ≡ net_of g i → owed_steps courses h i ≡ owed_steps courses g i
  owed-by_net g h same = ap (λ es. forward s (steps_of es)) same

module _ (plans : List Plan) (good : AreGood plans) (i : ℕ) where
  abbrev cs : List Course
  cs = courses_of plans

  abbrev t : Shape
  t = shape cs i

  push_below : (b d : ℕ) (ds : List ℕ) → IsTrue (list_all (λ x. ltb x b) ds) → d < b → IsTrue (list_all (λ x. ltb x b) (ds ++ d ∷ []))
  push_below b d ds all less =
      list_all-append (λ x. ltb x b) ds (d ∷ []) ∙ and_from (list_all (λ x. ltb x b) ds) (ltb d b && true) all (and_from (ltb d b) true (lt-ltb d b less) refl)

  -- a step that isn't a commit point
  below-undoable : (h after : List Event) (d : ℕ) → commits_after t (net_steps h i) d ≡ false → HasGoodPlan cs i → goes_on_to t (net_steps h i) d ≡ true
      → net_steps after i ≡ net_steps h i ++ d ∷ [] → done_steps after i ≡ done_steps h i ++ d ∷ [] → BelowOwed cs i h → BelowOwed cs i after
  below-undoable h after d kind plan on net done is b rest next =
      let w = net_steps h i in
      let same : forward t (w ++ d ∷ []) ≡ forward t w = owed_without t w d (fixed_more t w d ∙ ap (λ c. cond c (length w + 1) (fixed_len t w)) kind) in
      let before : forward t w ≡ b ∷ rest = sym same ∙ (sym (ap (forward t) net) ∙ next) in
      let less = below_owed t (paths_lie_in_order t plan.tree) plan.well_formed w b d rest before on kind in
      subst (λ ds. IsTrue (list_all (λ x. ltb x b) ds)) (sym done) (push_below b d (done_steps h i) (is b rest before) less)

  -- a commit point
  below-commit : (h after : List Event) (d : ℕ) → commits_after t (net_steps h i) d ≡ true → HasGoodPlan cs i → IsTrue (list_all (λ x. ltb x d) (done_steps h i))
      → net_steps after i ≡ net_steps h i ++ d ∷ [] → done_steps after i ≡ done_steps h i ++ d ∷ [] → BelowOwed cs i after
  below-commit h after d kind plan high net done b rest next =
      let w = net_steps h i in
      let now : forward t (w ++ d ∷ []) ≡ b ∷ rest = sym (ap (forward t) net) ∙ next in
      let first = first_owed t (w ++ d ∷ []) b rest now in
      let all : fixed_len t (w ++ d ∷ []) ≡ length w + 1 = fixed_more t w d ∙ ap (λ c. cond c (length w + 1) (fixed_len t w)) kind in
      let long = length-append w (d ∷ []) in
      let whole : take (fixed_len t (w ++ d ∷ [])) (w ++ d ∷ []) ≡ w ++ d ∷ [] =
      ap (λ n. take n (w ++ d ∷ [])) (let e : fixed_len t (w ++ d ∷ []) ≡ length (w ++ d ∷ []) = omega arith in e) ∙ take_length (w ++ d ∷ []) in
      let on : goes_on_to t (w ++ d ∷ []) b ≡ true = sym (ap (λ v. goes_on_to t v b) whole) ∙ first.on in
      let less = goes_up t w d b (paths_lie_in_order t plan.tree).rising on in
      subst (λ ds. IsTrue (list_all (λ x. ltb x b) ds)) (sym done)
      (push_below b d (done_steps h i) (list_all-weaker (λ x. ltb x d) (λ x. ltb x b) (done_steps h i) (λ x is. let l = ltb-true x d is in lt-ltb x b (omega arith)) high) less)
    where
      take_length : (xs : List ℕ) → take (length xs) xs ≡ xs
      take_length [] = refl
      take_length (x ∷ xs) = ap (λ ys. x ∷ ys) (take_length xs)

  below-step : (h after : List Event) (d : ℕ) (c : Bool) → commits_after t (net_steps h i) d ≡ c → IsTrue (goes_on cs h i d)
      → net_steps after i ≡ net_steps h i ++ d ∷ [] → done_steps after i ≡ done_steps h i ++ d ∷ [] → BelowOwed cs i h → BelowOwed cs i after
  below-step h after d c kind goes net done is =
      let parts = and_parts (goes_on_to t (net_steps h i) d) (list_all (λ x. ltb x d) (done_steps h i)) goes in
      by_kind c kind parts (good_if_goes_on plans i (net_steps h i) d good parts.0)
    where
      by_kind : (c : Bool) → commits_after t (net_steps h i) d ≡ c → (goes_on_to t (net_steps h i) d ≡ true) × (list_all (λ x. ltb x d) (done_steps h i) ≡ true) → HasGoodPlan cs i → BelowOwed cs i after
      by_kind true kind parts plan = below-commit h after d kind plan parts.1 net done
      by_kind false kind parts plan = below-undoable h after d kind plan parts.0 net done is

  below-act : (h : List Event) (e : Entry) → IsTrue (is_legal no_conflict cs h) → IsTrue (may_come no_conflict cs h (Act e))
      → (own u : Bool) → eqb e.process i ≡ own → e.undo ≡ u → BelowOwed cs i h → BelowOwed cs i (h ++ Act e ∷ [])
  below-act h e legal may false u other undo is =
      below-same cs i h (h ++ Act e ∷ []) (owed-by_net cs i h (h ++ Act e ∷ []) (net_of-other h e i other)) (done_other cs i h e other u undo) is
  below-act h e legal may true true own undo is =
      let same = eqb-true e.process i own in
      let taken = undoes no_conflict cs h e legal undo may in
      let owes : owed cs (h ++ Act e ∷ []) i ≡ owed cs h i = subst (λ k. owed cs (h ++ Act e ∷ []) k ≡ owed cs h k) same taken.owed in
      below-same cs i h (h ++ Act e ∷ [])
      (sym (steps_of-doing cs i (owed_steps cs (h ++ Act e ∷ []) i)) ∙ (ap steps_of owes ∙ steps_of-doing cs i (owed_steps cs h i)))
      (done_steps-undo h e i undo) is
  below-act h e legal may true false own is_step is =
      let same = eqb-true e.process i own in
      below-step h (h ++ Act e ∷ []) e.step (commits_after t (net_steps h i) e.step) refl
      (subst (λ k. IsTrue (goes_on cs h k e.step)) same (step_goes_on no_conflict cs h e is_step may))
      (subst (λ k. net_steps (h ++ Act e ∷ []) k ≡ net_steps h k ++ e.step ∷ []) same (net_steps-do h e is_step))
      (subst (λ k. done_steps (h ++ Act e ∷ []) k ≡ done_steps h k ++ e.step ∷ []) same (done_steps-do h e is_step)) is

  below-more : (h : List Event) (e : Event) → IsTrue (is_legal no_conflict cs h) → IsTrue (may_come no_conflict cs h e) → BelowOwed cs i h → BelowOwed cs i (h ++ e ∷ [])
  below-more h (Start k) legal may is =
      below-same cs i h (h ++ Start k ∷ []) (owed-by_net cs i h (h ++ Start k ∷ []) (net_of-start h k i)) (done_steps-append h (Start k ∷ []) i ∙ append-nil (done_steps h i)) is
  below-more h (Act e) legal may is = below-act h e legal may (eqb e.process i) e.undo refl refl is
  below-more h (End k) legal may is =
      below-same cs i h (h ++ End k ∷ []) (owed-by_net cs i h (h ++ End k ∷ []) (net_of-end h k i)) (done_steps-append h (End k ∷ []) i ∙ append-nil (done_steps h i)) is

  -- the first owed step is above each that took effect
  pub done-below_owed : (h : List Event) → IsTrue (is_legal no_conflict cs h) → BelowOwed cs i h
  done-below_owed h legal = by_legal no_conflict cs (BelowOwed cs i) below-more (λ b rest next. refl) h legal
