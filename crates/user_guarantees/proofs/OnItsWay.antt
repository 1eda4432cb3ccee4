-- The history of a process that is on its first way: each event leaves it there, or is its next step.
use Rattle.std.proofs.Common.{◌≡◌, ◌⊎◌, inl, inr, ℕ, Bool, true, false, not, eqb, ◌&&◌, ◌||◌, List, [], ◌∷◌, ◌++◌, length, filter, sym, refl, ap, subst, ◌∙◌, append_assoc, append-nil}
use Rattle.std.specs.Bool.{IsTrue}
use Rattle.std.specs.List.{Contains, list_any}
use Rattle.std.proofs.Math.Bool.{and-false, or-false}
use Rattle.std.proofs.lemmas.Bool.{and_parts, eqb-true, false≢true, not-true}
use Rattle.std.proofs.lemmas.List.Folds.{list_any-append}
use Rattle.process_tree.specs.Order.{IsLaidOut}
use Rattle.process_tree.specs.Shape.{Shape, first_of}
use Rattle.process_tree.specs.declared.entry.Entry.{Entry}
use Rattle.process_tree.specs.declared.plan.Plan.{Plan}
use Rattle.process_tree.proofs.TreeLaws.{paths_lie_in_order}
use Rattle.schedule_model.specs.declared.event.Event.{Event}
use Rattle.schedule_model.specs.declared.event.Event.TheVariants.{Start as Started, Act, End as Ended}
use Rattle.schedule_model.specs.Course.{Course, course, course_of, courses_of, no_course, shape}
use Rattle.schedule_model.specs.Conflict.{no_conflict}
use Rattle.schedule_model.specs.Histories.{acts, doing, done_steps, ends, is_active, is_in, net, net_steps, starts, steps_of, undoing}
use Rattle.schedule_model.specs.Laws.{AreGood}
use Rattle.schedule_model.specs.Legal.{is_legal}
use Rattle.schedule_model.proofs.Appends.{acts-append, ends-append, is_in-append}
use Rattle.schedule_model.proofs.Conflicts.{same_either_way}
use Rattle.schedule_model.proofs.GoodPlans.{of_plan, plan_or_none}
use Rattle.schedule_model.proofs.Members.{among-filter, filter-none, not_any}
use Rattle.schedule_model.proofs.Recoveries.{net_steps-do}
use Rattle.schedule_model.proofs.Snoc.{done_steps-do}
use Rattle.schedule_model.proofs.Started.{acts-started, ends-started, net-started}
use Rattle.machine_model.specs.declared.kept.Work.{Work}
use Rattle.machine_model.specs.declared.kept.Work.TheVariants.{Forward, Undo, End}
use Rattle.machine_model.specs.Moment.{Moment, Piece, has_begun}
use Rattle.machine_model.specs.Progress.{above, same_task, same_work, step_or_end}
use Rattle.machine_model.specs.State.{next_of, progress, refused_steps}
use Rattle.machine_model.specs.Advance.{event_by, event_of}
use Rattle.machine_model.proofs.Frames.{SameFor, event-leaves, start-leaves, end-leaves}
use Rattle.machine_model.proofs.OwnOrder.{same_work-is}
use Rattle.machine_model.proofs.RunningNext.{IsNextPiece}
use Rattle.user_guarantees.specs.FirstWay.{has_undo}
use Rattle.user_guarantees.proofs.FirstWay.{next_along}

module _ (plans : List Plan) (good : AreGood plans) (i : ℕ) (w : List ℕ) (others : List (List ℕ)) (paths : (shape (courses_of plans) i).paths ≡ w ∷ others) where
  abbrev cs : List Course
  cs = courses_of plans

  abbrev t : Shape
  t = shape (courses_of plans) i

  laid : IsLaidOut (length t.kinds) t.paths
  laid = by_plan (plan_or_none plans i)
    where
      no_paths : {X : Type 0} (x : X) (xs : List X) → [] ≡ x ∷ xs → ⊥
      no_paths x xs is = cc

      by_plan : (course cs i ≡ no_course) ⊎ ((p : Plan) × Contains plans p × (course cs i ≡ course_of p)) → IsLaidOut (length t.kinds) t.paths
      by_plan (inl none) = absurd (no_paths w others (sym (ap (λ (c : Course). c.shape.paths) none) ∙ paths))
      by_plan (inr found) = paths_lie_in_order t (of_plan cs i found.0 (good found.0 found.1) found.2).tree

  -- what is done of the process is a beginning of its way, all of it if it has ended, and nothing was undone
  pub record OnWay (h : List Event) : Type 0 where
    pub no_undo : has_undo h i ≡ false
    pub done : done_steps h i ≡ net_steps h i
    pub rest : List ℕ
    pub along : net_steps h i ++ rest ≡ w
    pub whole : is_in i (ends h) ≡ true → net_steps h i ≡ w

  -- an event that leaves its steps
  leaves : (h g : List Event) → SameFor g h i → has_undo g i ≡ has_undo h i → (is_in i (ends g) ≡ true → is_in i (ends h) ≡ true) → OnWay h → OnWay g
  leaves h g same undo ended on =
      let steps : net_steps g i ≡ net_steps h i = ap steps_of same.net in
      record {
        no_undo = undo ∙ on.no_undo;
        done = same.done ∙ (on.done ∙ sym steps);
        rest = on.rest;
        along = ap (λ x. x ++ on.rest) steps ∙ on.along;
        whole = λ is. steps ∙ on.whole (ended is);
      }

  no_act : (h : List Event) (e : Event) → acts (e ∷ []) ≡ [] → has_undo (h ++ e ∷ []) i ≡ has_undo h i
  no_act h e none = ap (list_any (λ (x : Entry). x.undo && eqb x.process i)) (acts-append h (e ∷ []) ∙ (ap (λ es. acts h ++ es) none ∙ append-nil (acts h)))

  one_act : (h : List Event) (e : Entry) → (e.undo && eqb e.process i) ≡ false → has_undo (h ++ Act e ∷ []) i ≡ has_undo h i
  one_act h e none =
      ap (list_any (λ (x : Entry). x.undo && eqb x.process i)) (acts-append h (Act e ∷ []))
      ∙ (list_any-append (λ (x : Entry). x.undo && eqb x.process i) (acts h) (e ∷ [])
      ∙ (ap (λ b. has_undo h i || (b || false)) none ∙ or-false (has_undo h i)))

  no_end : (h : List Event) (e : Event) → ends (e ∷ []) ≡ [] → is_in i (ends (h ++ e ∷ [])) ≡ true → is_in i (ends h) ≡ true
  no_end h e none is = sym (ap (is_in i) (ends-append h (e ∷ []) ∙ (ap (λ js. ends h ++ js) none ∙ append-nil (ends h)))) ∙ is

  pub way-start : (h : List Event) (j : ℕ) → OnWay h → OnWay (h ++ Started j ∷ [])
  way-start h j on = leaves h (h ++ Started j ∷ []) (start-leaves h j i) (no_act h (Started j) refl) (no_end h (Started j) refl) on

  other_end : (h : List Event) (j : ℕ) → eqb i j ≡ false → is_in i (ends (h ++ Ended j ∷ [])) ≡ true → is_in i (ends h) ≡ true
  other_end h j other is =
      sym (ap (is_in i) (ends-append h (Ended j ∷ [])) ∙ (is_in-append i (ends h) (j ∷ []) ∙ (ap (λ b. is_in i (ends h) || (b || false)) other ∙ or-false (is_in i (ends h))))) ∙ is

  pub way-other : (h : List Event) (q : Piece) → eqb q.process i ≡ false → OnWay h → OnWay (h ++ event_of cs q ∷ [])
  way-other h q other on = by_work q.work (event-leaves cs h q i other)
    where
      by_work : (v : Work) → SameFor (h ++ event_by cs q.process q.step v ∷ []) h i → OnWay (h ++ event_by cs q.process q.step v ∷ [])
      by_work Forward same = leaves h (h ++ Act (doing cs q.process q.step) ∷ []) same (one_act h (doing cs q.process q.step) refl) (no_end h (Act (doing cs q.process q.step)) refl) on
      by_work Undo same = leaves h (h ++ Act (undoing (doing cs q.process q.step)) ∷ []) same (one_act h (undoing (doing cs q.process q.step)) other) (no_end h (Act (undoing (doing cs q.process q.step))) refl) on
      by_work End same = leaves h (h ++ Ended q.process ∷ []) same (no_act h (Ended q.process) refl) (other_end h q.process (same_either_way q.process i false other)) on

  -- its next step
  way-step : (h : List Event) (d : ℕ) (r : List ℕ) → is_in i (ends h) ≡ false → OnWay h → net_steps h i ++ d ∷ r ≡ w → OnWay (h ++ Act (doing cs i d) ∷ [])
  way-step h d r not_over on along =
      let steps : net_steps (h ++ Act (doing cs i d) ∷ []) i ≡ net_steps h i ++ d ∷ [] = net_steps-do h (doing cs i d) refl in
      record {
        no_undo = one_act h (doing cs i d) refl ∙ on.no_undo;
        done = done_steps-do h (doing cs i d) refl ∙ (ap (λ x. x ++ d ∷ []) on.done ∙ sym steps);
        rest = r;
        along = ap (λ x. x ++ r) steps ∙ (append_assoc (net_steps h i) (d ∷ []) r ∙ along);
        whole = λ is. absurd (false≢true (sym not_over ∙ no_end h (Act (doing cs i d)) refl is));
      }

  -- its end, at the end of the way
  way-end : (h : List Event) → OnWay h → net_steps h i ≡ w → OnWay (h ++ Ended i ∷ [])
  way-end h on all =
      let same = end-leaves h i i in
      let steps : net_steps (h ++ Ended i ∷ []) i ≡ net_steps h i = ap steps_of same.net in
      record {
        no_undo = no_act h (Ended i) refl ∙ on.no_undo;
        done = same.done ∙ (on.done ∙ sym steps);
        rest = on.rest;
        along = ap (λ x. x ++ on.rest) steps ∙ on.along;
        whole = λ is. steps ∙ all;
      }

  module _ (m : Moment) (never : has_begun m i ≡ false) (none : refused_steps cs m i ≡ []) (on : OnWay m.events) where
    -- what is next is the next step of the way, or the end
    pub next_on_way : next_of cs m i ≡ step_or_end (first_of on.rest)
    next_on_way =
        next_along t w others paths laid (progress cs m i) refl never (ap (λ rs. above (done_steps m.events i ++ rs)) none ∙ ap above (append-nil (done_steps m.events i) ∙ on.done)) on.rest on.along

    pub way-own : (q : Piece) → q.process ≡ i → is_active m.events i ≡ true → IsNextPiece cs m q → OnWay (m.events ++ event_of cs q ∷ [])
    way-own q own goes next = by_rest on.rest on.along (subst (λ x. same_task (record { work = q.work; step = q.step }) x ≡ true) (ap (next_of cs m) own ∙ next_on_way) next)
      where
        not_over : is_in i (ends m.events) ≡ false
        not_over = not-true (is_in i (ends m.events)) (and_parts (is_in i (starts m.events)) (not (is_in i (ends m.events))) goes).1

        by_rest : (rest : List ℕ) → net_steps m.events i ++ rest ≡ w → same_task (record { work = q.work; step = q.step }) (step_or_end (first_of rest)) ≡ true → OnWay (m.events ++ event_of cs q ∷ [])
        by_rest [] along same =
            let parts = and_parts (same_work q.work End) (eqb q.step 0) same in
            subst (λ e. OnWay (m.events ++ e ∷ [])) (sym (ap (event_by cs q.process q.step) (same_work-is q.work End parts.0) ∙ ap Ended own))
            (way-end m.events on (sym (append-nil (net_steps m.events i)) ∙ along))
        by_rest (d ∷ r) along same =
            let parts = and_parts (same_work q.work Forward) (eqb q.step d) same in
            subst (λ e. OnWay (m.events ++ e ∷ []))
            (sym (ap (event_by cs q.process q.step) (same_work-is q.work Forward parts.0) ∙ (ap (λ j. Act (doing cs j q.step)) own ∙ ap (λ b. Act (doing cs i b)) (eqb-true q.step d parts.1))))
            (way-step m.events d r not_over on along)

  -- before its start nothing is done
  pub way-unstarted : (h : List Event) → IsTrue (is_legal no_conflict cs h) → is_in i (starts h) ≡ false → OnWay h
  way-unstarted h legal out = record {
    no_undo = not_any (λ (e : Entry). e.undo && eqb e.process i) (acts h) (λ e is. ap (λ b. e.undo && b) (not_its e.process (acts-started no_conflict cs h legal e is)) ∙ and-false e.undo);
    done = no_done ∙ sym no_net;
    rest = w;
    along = ap (λ x. x ++ w) no_net;
    whole = λ is. absurd (false≢true (sym out ∙ ends-started no_conflict cs h legal i is));
  }
    where
      not_its : (k : ℕ) → is_in k (starts h) ≡ true → eqb k i ≡ false
      not_its k is = by_test (eqb k i) refl
        where
          by_test : (b : Bool) → eqb k i ≡ b → eqb k i ≡ false
          by_test false at = at
          by_test true at = absurd (false≢true (sym out ∙ (ap (λ j. is_in j (starts h)) (sym (eqb-true k i at)) ∙ is)))

      no_net : net_steps h i ≡ []
      no_net = ap steps_of (filter-none (λ (e : Entry). eqb e.process i) (net h) (λ e is. not_its e.process (net-started no_conflict cs h legal e is)))

      no_done : done_steps h i ≡ []
      no_done = ap steps_of (filter-none (λ (e : Entry). eqb e.process i) (filter (λ (e : Entry). not e.undo) (acts h))
          (λ e is. not_its e.process (acts-started no_conflict cs h legal e (among-filter (λ (e : Entry). not e.undo) e (acts h) is).0)))
