-- The first event of a completion keeps own order, and what comes after it is the completion of the history with it.
use Rattle.std.proofs.Common.{◌≡◌, ◌⊎◌, inl, inr, ⊎_elim, ℕ, zero, suc, true, not, eqb, ltb, ◌&&◌, List, [], ◌∷◌, ◌++◌, length, map, drop, sym, refl, ap, ◌∙◌, subst, arith}
use Rattle.std.specs.Bool.{IsTrue}
use Rattle.std.specs.List.{list_all}
use Rattle.std.proofs.lemmas.Bool.{and_from, eq-eqb, or_left}
use Rattle.std.proofs.lemmas.List.Elements.{All-contains}
use Rattle.process_tree.proofs.Entries.{access-same}
use Rattle.process_tree.specs.Entries.{access_of}
use Rattle.process_tree.specs.Conflicts.{same_access}
use Rattle.process_tree.specs.declared.entry.Entry.{Entry}
use Rattle.process_tree.specs.declared.plan.Plan.{Plan}
use Rattle.process_tree.specs.Shape.{fixed_len, goes_on_to, is_end, IsBranch}
use Rattle.process_tree.specs.Recovery.{forward, reserved}
use Rattle.process_tree.proofs.TreeLaws.{paths_lie_in_order}
use Rattle.schedule_model.specs.declared.event.Event.{Event}
use Rattle.schedule_model.specs.declared.event.Event.TheVariants.{Act, End}
use Rattle.schedule_model.specs.Course.{Course, courses_of, shape, access_at}
use Rattle.schedule_model.specs.Conflict.{no_conflict}
use Rattle.schedule_model.specs.Histories.{acts, active, is_active, is_in, doing, undoing, net, net_of, net_steps, done_steps, of_process, steps_of}
use Rattle.schedule_model.specs.Recovery.{backward_entries, owed, owed_steps}
use Rattle.schedule_model.specs.Completion.{all_backward_entries, is_to_undo, completion}
use Rattle.schedule_model.specs.OwnOrder.{keeps_order, goes_on, is_at_end, is_of_last}
use Rattle.schedule_model.specs.Legal.{is_legal, class_in}
use Rattle.schedule_model.specs.Laws.{AreGood}
use Rattle.schedule_model.proofs.Members.{Among, among-filter, contains-from_among, among_there}
use Rattle.schedule_model.proofs.Entries.{HasPlansAccess, acts-of_plans, All-net_acts}
use Rattle.schedule_model.proofs.Active.{is_active-is_in, completion-none}
use Rattle.schedule_model.proofs.Apart.{net-apart}
use Rattle.schedule_model.proofs.Starts.{active-apart}
use Rattle.schedule_model.proofs.Recoveries.{owed-do}
use Rattle.schedule_model.proofs.UndoPhase.{is_active_one, undo_of_last, completion-after_undo, all_backward_entries-of}
use Rattle.schedule_model.proofs.ClosingPhase.{completion-after_owed, completion-after_end}
use Rattle.schedule_model.proofs.GoodPlans.{good_if_goes_on}
use Rattle.schedule_model.proofs.ClassFacts.{facts, reserved_commits}
use Rattle.schedule_model.proofs.OwedPaths.{owed_is_reserved, first_owed, at_end, take_all}
use Rattle.schedule_model.proofs.NetPaths.{net-branch, done-below_owed}

-- a list is empty, or has a last
pub last_or_none : {X : Type 0} (xs : List X) → (xs ≡ []) ⊎ ((front : List X) × (x : X) × (xs ≡ front ++ x ∷ []))
last_or_none [] = inl refl
last_or_none (x ∷ xs) =
    ⊎_elim (λ none. inr ([], x, ap (λ ys. x ∷ ys) none)) (λ some. inr (x ∷ some.0, some.1, ap (λ ys. x ∷ ys) some.2)) (last_or_none xs)

-- what the first event of a completion is: the undo of the last that is to be undone; or, where nothing is, a step that
-- an active process owes, or an end
abbrev pub WhatComes : List Course → List Event → Event → Type 0
WhatComes courses h event =
    ((front : List Entry) × (x : Entry) × (event ≡ Act (undoing x)) × (all_backward_entries courses h ≡ front ++ x ∷ []))
    ⊎ (((i : ℕ) × (b : ℕ) × (event ≡ Act (doing courses i b)) × IsTrue (is_active h i) × (class_in courses h i b ≡ reserved) × Among (doing courses i b) (owed courses h i))
    ⊎ ((i : ℕ) × (event ≡ End i) × IsTrue (is_active h i) × (backward_entries courses h i ≡ [])))

-- the first event of a completion, and the rest of it
pub record First (courses : List Course) (h : List Event) : Type 0 where
  pub event : Event
  pub what : WhatComes courses h event
  pub rest : completion courses h ≡ event ∷ completion courses (h ++ event ∷ [])
  pub keeps : IsTrue (keeps_order courses h event)

-- nothing is to be completed, or there is a first event
abbrev pub Completes : List Course → List Event → Type 0
Completes courses h = ((completion courses h ≡ []) × (active h ≡ [])) ⊎ First courses h

module _ (plans : List Plan) (good : AreGood plans) (h : List Event) (legal : IsTrue (is_legal no_conflict (courses_of plans) h)) where
  abbrev cs : List Course
  cs = courses_of plans

  -- the net has the operations of the plans
  pub net-of_plans : (x : Entry) → Among x (net h) → access_of x ≡ access_at cs x.process x.step
  net-of_plans x is =
      All-contains (HasPlansAccess cs) (net h) x (All-net_acts (HasPlansAccess cs) (acts h) (acts-of_plans no_conflict cs h legal)) (contains-from_among x (net h) is)

  -- An undo comes first.
  first_undo : (front : List Entry) (x : Entry) → all_backward_entries cs h ≡ front ++ x ∷ [] → First cs h
  first_undo front x last =
      let there : Among x (net h) = (among-filter (is_to_undo cs h) x (net h) (subst (Among x) (sym last) (among_there front x []))).0 in
      record {
        event = Act (undoing x);
        what = inl (front, x, refl, last);
        rest = completion-after_undo no_conflict cs h legal front x last;
        keeps = and_from (is_active h x.process && same_access (access_of x) (access_at cs x.process x.step)) (is_of_last (backward_entries cs h x.process) (undoing x))
            (and_from (is_active h x.process) (same_access (access_of x) (access_at cs x.process x.step)) (is_active_one no_conflict cs h legal front x last) (access-same (access_of x) (access_at cs x.process x.step) (net-of_plans x there)))
            (undo_of_last no_conflict cs h legal front x last);
      }

  module _ (undone : all_backward_entries cs h ≡ []) where
    -- nothing of an active process is to be undone
    pub nothing_to_undo : (i : ℕ) → IsTrue (is_active h i) → backward_entries cs h i ≡ []
    nothing_to_undo i goes = sym (all_backward_entries-of cs h i (net-apart no_conflict cs h legal) goes) ∙ ap (of_process i) undone

    steps_fixed : (i : ℕ) → IsTrue (is_active h i) → drop (fixed_len (shape cs i) (net_steps h i)) (net_steps h i) ≡ []
    steps_fixed i goes = no_steps (net_of h i) (fixed_len (shape cs i) (net_steps h i)) (nothing_to_undo i goes)
      where
        no_steps : (es : List Entry) (n : ℕ) → drop n es ≡ [] → drop n (steps_of es) ≡ []
        no_steps [] zero none = refl
        no_steps [] (suc n) none = refl
        no_steps (e ∷ es) zero none = let l = ap length none in absurd (omega arith)
        no_steps (e ∷ es) (suc n) none = no_steps es n none

    module _ (i : ℕ) (others : List ℕ) (first : active h ≡ i ∷ others) where
      goes : IsTrue (is_active h i)
      goes = sym (is_active-is_in h i) ∙ (ap (is_in i) first ∙ or_left (eqb i i) (is_in i others) (eq-eqb i i refl))

      apart : IsTrue (list_all (λ k. not (eqb i k)) others)
      apart = active-apart no_conflict cs h i others legal first

      ended : (w : List ℕ) → net_steps h i ≡ w → IsBranch (shape cs i) w → drop (fixed_len (shape cs i) w) w ≡ [] → forward (shape cs i) w ≡ [] → is_end (shape cs i) w ≡ true
      ended w same (inl none) fixed owes = ap (is_end (shape cs i)) none
      ended w same (inr is) fixed owes =
          let t = shape cs i in
          let plan = good_if_goes_on plans i is.0 is.1 good is.3 in
          ap (is_end t) is.2
          ∙ at_end t plan.tree is.0 is.1 is.3 (sym (ap (λ v. drop (fixed_len t v) v) is.2) ∙ fixed) (sym (ap (forward t) is.2) ∙ owes)

      -- An end comes first.
      first_end : owed_steps cs h i ≡ [] → First cs h
      first_end owes = record {
        event = End i;
        what = inr (inr (i, refl, goes, nothing_to_undo i goes));
        rest = completion-after_end cs h i others first undone (ap (map (doing cs i)) owes) apart;
        keeps = and_from (is_active h i) (is_at_end cs h i) goes (ended (net_steps h i) refl (net-branch cs i h legal) (steps_fixed i goes) owes);
      }

      -- A step that is owed comes first.
      first_step : (b : ℕ) (rest : List ℕ) → owed_steps cs h i ≡ b ∷ rest → First cs h
      first_step b rest owes =
          let t = shape cs i in
          let w = net_steps h i in
          let fixed = first_owed t w b rest owes in
          let on : goes_on_to t w b ≡ true = sym (ap (λ v. goes_on_to t v b) (take_all w (fixed_len t w) (steps_fixed i goes))) ∙ fixed.on in
          let plan = good_if_goes_on plans i w b good on in
          let class : class_in cs h i b ≡ reserved = owed_is_reserved t (paths_lie_in_order t plan.tree) plan.well_formed w b rest owes in
          let does = facts cs h i b plan on in
          let after = h ++ Act (doing cs i b) ∷ [] in
          record {
            event = Act (doing cs i b);
            what = inr (inl (i, b, refl, goes, class, subst (Among (doing cs i b)) (sym (does.reserved_owes class)) (inl refl)));
            rest = completion-after_owed cs h i others first undone b (owed cs after i) (does.reserved_owes class) (reserved_commits cs h i b plan on class)
                (sym (owed-do cs h (doing cs i b) refl)) apart;
            keeps = and_from (is_active h i && same_access (access_at cs i b) (access_at cs i b)) (goes_on cs h i b)
                (and_from (is_active h i) (same_access (access_at cs i b) (access_at cs i b)) goes (access-same (access_at cs i b) (access_at cs i b) refl))
                (and_from (goes_on_to t w b) (list_all (λ d. ltb d b) (done_steps h i)) on (done-below_owed plans good i h legal b rest owes));
          }

      first_closing : First cs h
      first_closing = by_owed (owed_steps cs h i) refl
        where
          by_owed : (bs : List ℕ) → owed_steps cs h i ≡ bs → First cs h
          by_owed [] owes = first_end owes
          by_owed (b ∷ rest) owes = first_step b rest owes

    by_active : (is : List ℕ) → active h ≡ is → Completes cs h
    by_active [] none = inl (completion-none cs h none, none)
    by_active (i ∷ others) first = inr (first_closing i others first)

  -- a completion is empty, or begins with an event that keeps own order
  pub completes : Completes cs h
  completes =
      ⊎_elim (λ none. by_active none (active h) refl) (λ some. inr (first_undo some.0 some.1 some.2)) (last_or_none (all_backward_entries cs h))
