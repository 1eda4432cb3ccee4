-- What nothing stood against, nothing stands against without some of the processes.
use Rattle.std.proofs.Common.{◌≡◌, ◌⊎◌, inl, inr, ℕ, Bool, true, false, not, eqb, ◌&&◌, List, [], ◌++◌, filter, sym, refl, ap, ◌∙◌, subst}
use Rattle.std.specs.Bool.{IsTrue}
use Rattle.std.specs.List.{list_any}
use Rattle.std.proofs.lemmas.Bool.{and_parts, and_from, false≢true}
use Rattle.process_tree.specs.Recovery.{StepClass, reserved, committing, undoable}
use Rattle.process_tree.specs.declared.entry.Entry.{Entry}
use Rattle.schedule_model.specs.declared.event.Event.{Event}
use Rattle.schedule_model.specs.declared.event.Event.TheVariants.{Start, Act, End}
use Rattle.schedule_model.specs.Course.{Course}
use Rattle.schedule_model.specs.Conflict.{ConflictRelation, conflict}
use Rattle.schedule_model.specs.Histories.{is_in, net}
use Rattle.schedule_model.specs.Recovery.{owed, owed_after}
use Rattle.schedule_model.specs.Graph.{Walk, one_arrow, and_then}
use Rattle.schedule_model.specs.Holdings.{active_net, arrow, at_rest, behind, holders, reaches, running_steps}
use Rattle.schedule_model.specs.Legal.{class_in, is_clear}
use Rattle.schedule_model.proofs.Clear.{ClosesNoCircle, EntriesApart, LaterApart, NetApart, OwedApart, RestApart, all_running-at_rest, clear-committing, clear-end, clear-reserved, clear-undo, clear-undoable, committing-clear, end-clear, is_holder, reserved-clear, undo-clear, undoable-clear}
use Rattle.schedule_model.proofs.Members.{Among, among-any, among-append, among-filter, among-left, any-among}
use Rattle.schedule_model.proofs.Walks.{leads-from_walk, walk-from_leads}
use Rattle.forgetting_model.specs.Remaining.{events_of, process_of}
use Rattle.forgetting_model.proofs.Dropped.{active_is_kept, active_net-of, behind-kept, class-kept, kept_active_net, kept_entry, net-kept, owed_after-kept, stays_kept, was_active}

module _ (table : ConflictRelation) (courses : List Course) (h : List Event) (keep : ℕ → Bool) where
  abbrev g : List Event
  g = events_of keep h

  -- what stands behind a kept entry among the kept ones stood behind it
  pub was_behind : (x y : Entry) → keep x.process ≡ true → Among y (behind x (active_net (at_rest courses g))) → Among y (behind x (active_net (at_rest courses h))) × (keep y.process ≡ true)
  was_behind x y stays back =
      among-filter (kept_entry keep) y (behind x (active_net (at_rest courses h)))
      (subst (Among y) (ap (behind x) (active_net-of keep courses h) ∙ behind-kept keep x (active_net (at_rest courses h)) stays) back)

  no_steps : (k : List Event) → running_steps (at_rest courses k) ≡ []
  no_steps k = ap (filter (λ (e : Entry). not e.undo)) (all_running-at_rest courses k)

  -- An arrow between them was there.
  was_arrow : (k i : ℕ) → arrow table (at_rest courses g) k i ≡ true → arrow table (at_rest courses h) k i ≡ true
  was_arrow k i is =
      let es = active_net (at_rest courses g) in
      let fs = active_net (at_rest courses h) in
      let first = among-any (λ (x : Entry). eqb x.process k && list_any (λ (y : Entry). eqb y.process i && conflict table x y) (behind x es ++ running_steps (at_rest courses g))) es is in
      let x = first.0 in
      let there = kept_active_net keep courses h x first.1 in
      let parts = and_parts (eqb x.process k) (list_any (λ (y : Entry). eqb y.process i && conflict table x y) (behind x es ++ running_steps (at_rest courses g))) first.2 in
      let second = among-any (λ (y : Entry). eqb y.process i && conflict table x y) (behind x es ++ running_steps (at_rest courses g)) parts.1 in
      let y = second.0 in
      let back : Among y (behind x fs ++ running_steps (at_rest courses h)) = by_part x y there.1 (among-append y (behind x es) (running_steps (at_rest courses g)) second.1) in
      any-among (λ (x : Entry). eqb x.process k && list_any (λ (y : Entry). eqb y.process i && conflict table x y) (behind x fs ++ running_steps (at_rest courses h))) x fs there.0
      (and_from (eqb x.process k) (list_any (λ (y : Entry). eqb y.process i && conflict table x y) (behind x fs ++ running_steps (at_rest courses h))) parts.0
      (any-among (λ (y : Entry). eqb y.process i && conflict table x y) y (behind x fs ++ running_steps (at_rest courses h)) back second.2))
    where
      by_part : (x y : Entry) → keep x.process ≡ true → Among y (behind x (active_net (at_rest courses g))) ⊎ Among y (running_steps (at_rest courses g)) → Among y (behind x (active_net (at_rest courses h)) ++ running_steps (at_rest courses h))
      by_part x y stays (inl back) = among-left y (behind x (active_net (at_rest courses h))) (running_steps (at_rest courses h)) (was_behind x y stays back).0
      by_part x y stays (inr runs) = absurd (subst (Among y) (no_steps g) runs)

  was_holder : (i : ℕ) → IsTrue (is_in i (holders (at_rest courses g))) → IsTrue (is_in i (holders (at_rest courses h)))
  was_holder i is = is_holder courses h i ∙ was_active keep h i (sym (is_holder courses g i) ∙ is)

  was_walk : (i k : ℕ) → Walk (arrow table (at_rest courses g)) (holders (at_rest courses g)) i k → Walk (arrow table (at_rest courses h)) (holders (at_rest courses h)) i k
  was_walk i k (one_arrow among a) = one_arrow (was_holder k among) (was_arrow i k a)
  was_walk i k (and_then {j = j} w among a) = and_then (was_walk i j w) (was_holder k among) (was_arrow j k a)

  -- where no walk leads back, none does among them
  still_unreached : (i k : ℕ) → reaches table (at_rest courses h) i k ≡ false → reaches table (at_rest courses g) i k ≡ false
  still_unreached i k none = by_test (reaches table (at_rest courses g) i k) refl
    where
      by_test : (t : Bool) → reaches table (at_rest courses g) i k ≡ t → reaches table (at_rest courses g) i k ≡ false
      by_test true is =
          absurd (false≢true (sym none ∙ leads-from_walk (arrow table (at_rest courses h)) (holders (at_rest courses h)) (was_walk i k (walk-from_leads (arrow table (at_rest courses g)) (holders (at_rest courses g)) i k is))))
      by_test false is = is

  -- Nothing more is in the way.

  owed_apart : (b : Entry) → OwedApart table courses h b → OwedApart table courses g b
  owed_apart b apart k s goes owes =
      let stays = active_is_kept keep h k goes in
      let same : owed courses g k ≡ owed courses h k = (stays_kept keep courses h k stays).owes in
      apart k s (was_active keep h k goes) (subst (Among s) same owes)

  net_apart : (b : Entry) → NetApart table courses h b → NetApart table courses g b
  net_apart b apart x stands goes =
      apart x (among-filter (kept_entry keep) x (net h) (subst (Among x) (net-kept keep h) stands)).0 (was_active keep h x.process goes)

  front_apart : (i : ℕ) → EntriesApart table courses h i → EntriesApart table courses g i
  front_apart i apart x y front back own =
      let there = kept_active_net keep courses h x front in
      apart x y there.0 (was_behind x y there.1 back).0 own

  circle_apart : (b : Entry) → ClosesNoCircle table (at_rest courses h) b → ClosesNoCircle table (at_rest courses g) b
  circle_apart b closes x stands conflicts =
      still_unreached b.process x.process (closes x (kept_active_net keep courses h x stands).0 conflicts)

  rest_apart : (rest : List Entry) → RestApart table courses h rest → RestApart table courses g rest
  rest_apart rest apart s is = (net_apart s (apart s is).0, owed_apart s (apart s is).1)

  later_apart : (x : Entry) → keep x.process ≡ true → LaterApart table courses h x → LaterApart table courses g x
  later_apart x stays apart y back =
      apart y (among-filter (kept_entry keep) y (behind x (net h)) (subst (Among y) (ap (behind x) (net-kept keep h) ∙ behind-kept keep x (net h) stays) back)).0

  -- By class.

  step_clear : (e : Entry) → keep e.process ≡ true → e.undo ≡ false → (class : StepClass) → class_in courses h e.process e.step ≡ class
      → IsTrue (is_clear table courses h (Act e)) → IsTrue (is_clear table courses g (Act e))
  step_clear e stays is_step reserved is clear =
      clear-reserved table courses g e is_step (class-kept keep courses h e.process e.step stays ∙ is) (owed_apart e (reserved-clear table courses h e is_step is clear))
  step_clear e stays is_step undoable is clear =
      let apart = undoable-clear table courses h e is_step is clear in
      clear-undoable table courses g e is_step (class-kept keep courses h e.process e.step stays ∙ is) (owed_apart e apart.0) (circle_apart e apart.1)
  step_clear e stays is_step committing is clear =
      let apart = committing-clear table courses h e is_step is clear in
      let same : owed_after courses g e.process e.step ≡ owed_after courses h e.process e.step = owed_after-kept keep courses h e.process e.step stays in
      clear-committing table courses g e is_step (class-kept keep courses h e.process e.step stays ∙ is) (owed_apart e apart.0) (net_apart e apart.1)
      (front_apart e.process apart.2) (subst (RestApart table courses g) (sym same) (rest_apart (owed_after courses h e.process e.step) apart.3))

  act_clear : (e : Entry) → keep e.process ≡ true → (u : Bool) → e.undo ≡ u → IsTrue (is_clear table courses h (Act e)) → IsTrue (is_clear table courses g (Act e))
  act_clear e stays true undo clear = clear-undo table courses g e undo (later_apart e stays (undo-clear table courses h e undo clear))
  act_clear e stays false is_step clear = step_clear e stays is_step (class_in courses h e.process e.step) refl clear

  -- what nothing stood against, nothing stands against
  pub still_clear : (e : Event) → keep (process_of e) ≡ true → IsTrue (is_clear table courses h e) → IsTrue (is_clear table courses g e)
  still_clear (Start i) stays clear = clear
  still_clear (Act e) stays clear = act_clear e stays e.undo refl clear
  still_clear (End i) stays clear = clear-end table courses g i (front_apart i (end-clear table courses h i clear))
