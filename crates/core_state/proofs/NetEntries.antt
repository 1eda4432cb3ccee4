-- Of the net of a history in own order: each entry is a step that goes on from those of its process before it.
use Rattle.std.proofs.Common.{◌≡◌, ℕ, suc, ◌<◌, true, false, eqb, if◌then◌else◌, List, [], ◌∷◌, ◌++◌, length, take, drop, get_or, sym, refl, ap, subst, ◌∙◌, arith}
use Rattle.std.specs.Bool.{IsTrue}
use Rattle.std.proofs.Math.Seq.{drop-cons}
use Rattle.std.proofs.lemmas.List.{map-append, take-append-drop}
use Rattle.std.proofs.lemmas.List.Elements.{All-contains}
use Rattle.std.proofs.lemmas.Bool.{eq-eqb, ne_eqb, or_from}
use Rattle.process_tree.specs.Entries.{access_of}
use Rattle.process_tree.specs.declared.entry.Entry.{Entry}
use Rattle.process_tree.specs.declared.plan.Plan.{Plan}
use Rattle.process_tree.specs.Order.{Each, IsRising}
use Rattle.process_tree.specs.Shape.{Shape, branch_to, goes_on_to, IsBranch}
use Rattle.process_tree.proofs.Along.{goes_there}
use Rattle.process_tree.proofs.InTurn.{goes_within}
use Rattle.process_tree.proofs.Onward.{branch_from, goes_along, onward_above}
use Rattle.process_tree.proofs.Branches.{Each-among}
use Rattle.process_tree.proofs.TreeLaws.{paths_lie_in_order}
use Rattle.schedule_model.specs.declared.event.Event.{Event}
use Rattle.schedule_model.specs.Conflict.{no_conflict}
use Rattle.schedule_model.specs.Course.{Course, courses_of, shape, access_at}
use Rattle.schedule_model.specs.Histories.{acts, is_in, net, net_of, net_steps, of_process, steps_of}
use Rattle.schedule_model.specs.Laws.{AreGood}
use Rattle.schedule_model.specs.Legal.{is_legal}
use Rattle.schedule_model.proofs.CompletionFirst.{net-of_plans}
use Rattle.schedule_model.proofs.Entries.{net_acts-forward}
use Rattle.schedule_model.proofs.GoodPlans.{HasGoodPlan, good_if_goes_on}
use Rattle.schedule_model.proofs.Members.{Among, among_there, contains-from_among}
use Rattle.schedule_model.proofs.NetPaths.{net-branch}
use Rattle.schedule_model.proofs.Snoc.{of_process-append}

-- e comes behind these entries
pub record ComesBehind (courses : List Course) (es : List Entry) (e : Entry) : Type 0 where
  pub goes : goes_on_to (shape courses e.process) (steps_of (of_process e.process es)) e.step ≡ true
  pub forward : e.undo ≡ false
  pub access : access_of e ≡ access_at courses e.process e.step

module _ (plans : List Plan) (good : AreGood plans) (h : List Event) (legal : IsTrue (is_legal no_conflict (courses_of plans) h)) where
  pub comes_at : (front rest : List Entry) (e : Entry) → net h ≡ front ++ e ∷ rest → ComesBehind (courses_of plans) front e
  comes_at front rest e is = record {
    goes =
        let i = e.process in
        let own : net_of h i ≡ of_process i front ++ e ∷ of_process i rest =
        ap (of_process i) is ∙ (of_process-append i front (e ∷ rest) ∙ ap (λ c. of_process i front ++ (if c then e ∷ of_process i rest else of_process i rest)) (eq-eqb i i refl)) in
        let steps : net_steps h i ≡ steps_of (of_process i front) ++ e.step ∷ steps_of (of_process i rest) =
        ap steps_of own ∙ map-append (λ (x : Entry). x.step) (of_process i front) (e ∷ of_process i rest) in
        goes_there (shape (courses_of plans) i) (steps_of (of_process i front)) e.step (steps_of (of_process i rest))
        (subst (IsBranch (shape (courses_of plans) i)) steps (net-branch (courses_of plans) i h legal));
    forward = All-contains (λ (x : Entry). x.undo ≡ false) (net h) e (net_acts-forward (acts h)) (contains-from_among e (net h) (subst (Among e) (sym is) (among_there front e rest)));
    access = net-of_plans plans good h legal e (subst (Among e) (sym is) (among_there front e rest));
  }

  -- so it is at each place
  pub net_comes : (n : ℕ) (d : Entry) → n < length (net h) → ComesBehind (courses_of plans) (take n (net h)) (get_or (net h) n d)
  net_comes n d within = comes_at (take n (net h)) (drop (suc n) (net h)) (get_or (net h) n d) (sym (take-append-drop n (net h)) ∙ ap (λ xs. take n (net h) ++ xs) (drop-cons (net h) n d within))

-- what follows for a process of this plan
module _ (plans : List Plan) (good : AreGood plans) (es : List Entry) (e : Entry) (comes : ComesBehind (courses_of plans) es e) where
  abbrev t : Shape
  t = shape (courses_of plans) e.process

  abbrev w : List ℕ
  w = steps_of (of_process e.process es)

  plan : HasGoodPlan (courses_of plans) e.process
  plan = good_if_goes_on plans e.process w e.step good comes.goes

  -- what stood of it is the branch to the step
  pub branch_is_net : branch_to t e.step ≡ w
  branch_is_net = let laid = paths_lie_in_order t plan.tree in branch_from t w e.step laid.in_order laid.rising comes.goes

  -- it is a step of the process
  pub step_is_one : e.step < length t.kinds
  step_is_one = goes_within t (length t.kinds) w e.step (paths_lie_in_order t plan.tree).within comes.goes

  -- and didn't stand
  pub step_is_new : is_in e.step w ≡ false
  step_is_new =
      let along = goes_along t w e.step comes.goes in
      not_among w (onward_above w along.0 e.step (Each-among IsRising t.paths along.0 (paths_lie_in_order t plan.tree).rising along.1) along.2)
    where
      not_among : (xs : List ℕ) → Each (λ b. b < e.step) xs → is_in e.step xs ≡ false
      not_among [] each = refl
      not_among (x ∷ xs) each = or_from (eqb e.step x) (is_in e.step xs) (ne_eqb e.step x (λ same. let less = each.0 in omega arith)) (not_among xs each.1)
