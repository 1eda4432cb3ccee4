-- Where only ended processes are left out, nothing stands against an event exactly where nothing did.
use Rattle.std.proofs.Common.{◌≡◌, ◌⊎◌, inl, inr, ⊎_elim, ℕ, Bool, true, false, not, eqb, ◌&&◌, List, [], ◌∷◌, ◌++◌, filter, sym, refl, ap, ◌∙◌, subst}
use Rattle.std.specs.Bool.{IsTrue}
use Rattle.std.specs.List.{list_any}
use Rattle.std.proofs.lemmas.Bool.{and_parts, and_from, eqb-true, or_left}
use Rattle.process_tree.specs.Entries.{access_of}
use Rattle.process_tree.specs.Recovery.{StepClass, reserved, committing, undoable}
use Rattle.process_tree.specs.declared.entry.Entry.{Entry}
use Rattle.schedule_model.specs.declared.event.Event.{Event}
use Rattle.schedule_model.specs.declared.event.Event.TheVariants.{Start, Act, End}
use Rattle.schedule_model.specs.Course.{Course, access_at}
use Rattle.schedule_model.specs.Conflict.{ConflictRelation, IsSymmetric, conflict}
use Rattle.schedule_model.specs.Graph.{leads}
use Rattle.schedule_model.specs.Histories.{active, after_number, ends, starts, is_active, is_in, net, same_step}
use Rattle.schedule_model.specs.Recovery.{owed, owed_after}
use Rattle.schedule_model.specs.Holdings.{active_net, arrow, at_rest, behind, holders, reaches, running_steps}
use Rattle.schedule_model.specs.Legal.{class_in, is_clear, is_legal}
use Rattle.schedule_model.specs.OwnOrder.{keeps_order}
use Rattle.schedule_model.proofs.Acting.{act_in_order}
use Rattle.schedule_model.proofs.Active.{is_active-is_in}
use Rattle.schedule_model.proofs.Behind.{among_behind, behind-none, has_step, same_step-process}
use Rattle.schedule_model.proofs.NoConflict.{reducible-legal}
use Rattle.schedule_model.proofs.Orders.{behind-same_step}
use Rattle.schedule_model.proofs.Clear.{ClosesNoCircle, EntriesApart, LaterApart, NetApart, OwedApart, RestApart, all_running-at_rest, clear-committing, clear-end, clear-reserved, clear-undo, clear-undoable, committing-clear, end-clear, holders-at_rest, is_holder, reserved-clear, undo-clear, undoable-clear}
use Rattle.schedule_model.proofs.EndedFree.{ended-free}
use Rattle.schedule_model.proofs.Members.{Among, among-any, among-filter, in_filter, is_in-among}
use Rattle.schedule_model.proofs.Started.{net-started}
use Rattle.forgetting_model.specs.Remaining.{events_of, process_of}
use Rattle.forgetting_model.proofs.Dropped.{active-of, active_net-of, behind-kept, class-kept, is_active-kept, kept_entry, net-kept, owed_after-kept, stays_kept}
use Rattle.forgetting_model.proofs.KnownAccess.{net-access}

-- a filter that lets all of these through
pub filter_each : {X : Type 0} (p : X → Bool) (xs : List X) → ((x : X) → Among x xs → p x ≡ true) → filter p xs ≡ xs
filter_each p [] all = refl
filter_each p (x ∷ xs) all = rw (all x (inl refl)) (ap (λ ys. x ∷ ys) (filter_each p xs (λ y is. all y (inr is))))

module _ (table : ConflictRelation) (courses : List Course) (h : List Event) (keep : ℕ → Bool)
    (opens : (i : ℕ) → IsTrue (is_active h i) → keep i ≡ true) where
  abbrev g : List Event
  g = events_of keep h

  pub same_active : active g ≡ active h
  same_active = active-of keep h ∙ filter_each keep (active h) (λ i among. opens i (sym (is_active_in i) ∙ is_in_from i among))
    where
      is_active_in : (i : ℕ) → is_in i (active h) ≡ is_active h i
      is_active_in i = is_active-is_in h i

      is_in_from : (i : ℕ) → Among i (active h) → is_in i (active h) ≡ true
      is_in_from i among = is_in-among i (active h) among

  pub same_active_net : active_net (at_rest courses g) ≡ active_net (at_rest courses h)
  same_active_net =
      active_net-of keep courses h
      ∙ filter_each (kept_entry keep) (active_net (at_rest courses h))
      (λ x among. opens x.process (sym (is_holder courses h x.process) ∙ (among-filter (λ (e : Entry). is_in e.process (holders (at_rest courses h))) x (net h) among).1))

  same_holders : holders (at_rest courses g) ≡ holders (at_rest courses h)
  same_holders = holders-at_rest courses g ∙ (same_active ∙ sym (holders-at_rest courses h))

  same_steps : running_steps (at_rest courses g) ≡ running_steps (at_rest courses h)
  same_steps = ap (filter (λ (e : Entry). not e.undo)) (all_running-at_rest courses g ∙ sym (all_running-at_rest courses h))

  same_reach : (i k : ℕ) → reaches table (at_rest courses g) i k ≡ reaches table (at_rest courses h) i k
  same_reach i k =
      ap (λ es. leads (λ k i. list_any (λ (x : Entry). eqb x.process k && list_any (λ (y : Entry). eqb y.process i && conflict table x y) (behind x es ++ running_steps (at_rest courses g))) es) (holders (at_rest courses g)) i k) same_active_net
      ∙ (ap (λ rs. leads (λ k i. list_any (λ (x : Entry). eqb x.process k && list_any (λ (y : Entry). eqb y.process i && conflict table x y) (behind x (active_net (at_rest courses h)) ++ rs)) (active_net (at_rest courses h))) (holders (at_rest courses g)) i k) same_steps
      ∙ ap (λ is. leads (arrow table (at_rest courses h)) is i k) same_holders)

  owed_before : (b : Entry) → OwedApart table courses g b → OwedApart table courses h b
  owed_before b apart k s goes owes =
      let stays = opens k goes in
      let same : owed courses g k ≡ owed courses h k = (stays_kept keep courses h k stays).owes in
      apart k s (is_active-kept keep h k stays ∙ goes) (subst (Among s) (sym same) owes)

  net_before : (b : Entry) → NetApart table courses g b → NetApart table courses h b
  net_before b apart x stands goes =
      let stays = opens x.process goes in
      apart x (subst (Among x) (sym (net-kept keep h)) (in_filter (kept_entry keep) x (net h) stands stays)) (is_active-kept keep h x.process stays ∙ goes)

  front_before : (i : ℕ) → EntriesApart table courses g i → EntriesApart table courses h i
  front_before i apart x y front back own =
      apart x y (subst (Among x) (sym same_active_net) front) (subst (λ es. Among y (behind x es)) (sym same_active_net) back) own

  circle_before : (b : Entry) → ClosesNoCircle table (at_rest courses g) b → ClosesNoCircle table (at_rest courses h) b
  circle_before b closes x stands conflicts = sym (same_reach b.process x.process) ∙ closes x (subst (Among x) (sym same_active_net) stands) conflicts

  rest_before : (rest : List Entry) → RestApart table courses g rest → RestApart table courses h rest
  rest_before rest apart s is = (net_before s (apart s is).0, owed_before s (apart s is).1)

  step_before : (e : Entry) → keep e.process ≡ true → e.undo ≡ false → (class : StepClass) → class_in courses h e.process e.step ≡ class
      → IsTrue (is_clear table courses g (Act e)) → IsTrue (is_clear table courses h (Act e))
  step_before e stays is_step reserved is clear =
      clear-reserved table courses h e is_step is (owed_before e (reserved-clear table courses g e is_step (class-kept keep courses h e.process e.step stays ∙ is) clear))
  step_before e stays is_step undoable is clear =
      let apart = undoable-clear table courses g e is_step (class-kept keep courses h e.process e.step stays ∙ is) clear in
      clear-undoable table courses h e is_step is (owed_before e apart.0) (circle_before e apart.1)
  step_before e stays is_step committing is clear =
      let apart = committing-clear table courses g e is_step (class-kept keep courses h e.process e.step stays ∙ is) clear in
      let same : owed_after courses g e.process e.step ≡ owed_after courses h e.process e.step = owed_after-kept keep courses h e.process e.step stays in
      clear-committing table courses h e is_step is (owed_before e apart.0) (net_before e apart.1) (front_before e.process apart.2)
      (rest_before (owed_after courses h e.process e.step) (subst (RestApart table courses g) same apart.3))

  -- An undo: what ended stands in nobody's way.
  module _ (symmetric : IsSymmetric table) (legal : IsTrue (is_legal table courses h)) where
    ended_or_kept : (y : Entry) → Among y (net h) → (keep y.process ≡ true) ⊎ IsTrue (is_in y.process (ends h))
    ended_or_kept y stands = by_end (is_in y.process (ends h)) refl
      where
        by_end : (t : Bool) → is_in y.process (ends h) ≡ t → (keep y.process ≡ true) ⊎ IsTrue (is_in y.process (ends h))
        by_end true ended = inr ended
        by_end false out = inl (opens y.process (and_from (is_in y.process (starts h)) (not (is_in y.process (ends h))) (net-started table courses h legal y stands) (ap not out)))

    ended_apart : (x y : Entry) → IsTrue (is_active h x.process) → access_of x ≡ access_at courses x.process x.step
        → Among y (behind x (net h)) → IsTrue (is_in y.process (ends h)) → conflict table x y ≡ false
    ended_apart x y goes planned back ended = by_there (has_step x (net h)) refl
      where
        by_there : (t : Bool) → has_step x (net h) ≡ t → conflict table x y ≡ false
        by_there false out = absurd (subst (Among y) (behind-none x (net h) out) back)
        by_there true there =
            let found = among-any (same_step x) (net h) there in
            let z = found.0 in
            let own : x.process ≡ z.process = same_step-process x z found.2 in
            let step : x.step ≡ z.step = eqb-true x.step z.step (and_parts (eqb x.process z.process) (eqb x.step z.step) found.2).1 in
            let does_same : access_of x ≡ access_of z = planned ∙ (ap (λ p. access_at courses p x.step) own ∙ (ap (access_at courses z.process) step
            ∙ sym (net-access table courses h legal z found.1))) in
            let same_behind : behind x (net h) ≡ behind z (net h) = behind-same_step (net h) x z found.2 in
            ap (λ p. not (eqb p y.process) && table (access_of x) (access_of y)) own
            ∙ (ap (λ o. not (eqb z.process y.process) && table o (access_of y)) does_same
            ∙ ended-free table symmetric courses h (reducible-legal courses table h legal) z y ended
            (or_left (is_active h z.process) (is_in z.process (after_number y.process (ends h))) (ap (is_active h) (sym own) ∙ goes)) found.1 (subst (Among y) same_behind back))

    later_before : (x : Entry) → keep x.process ≡ true → IsTrue (is_active h x.process) → access_of x ≡ access_at courses x.process x.step
        → LaterApart table courses g x → LaterApart table courses h x
    later_before x stays goes planned apart y back =
        ⊎_elim
        (λ there. apart y (subst (Among y) (sym (ap (behind x) (net-kept keep h) ∙ behind-kept keep x (net h) stays)) (in_filter (kept_entry keep) y (behind x (net h)) back there)))
        (λ ended. ended_apart x y goes planned back ended)
        (ended_or_kept y (among_behind x y (net h) back))

    act_before : (e : Entry) → keep e.process ≡ true → IsTrue (keeps_order courses h (Act e)) → (u : Bool) → e.undo ≡ u → IsTrue (is_clear table courses g (Act e)) → IsTrue (is_clear table courses h (Act e))
    act_before e stays order true undo clear =
        let own = act_in_order courses h e order in
        clear-undo table courses h e undo (later_before e stays own.0 own.1 (undo-clear table courses g e undo clear))
    act_before e stays order false is_step clear = step_before e stays is_step (class_in courses h e.process e.step) refl clear

    -- what nothing stands against, nothing stood against
    pub clear_before : (e : Event) → keep (process_of e) ≡ true → IsTrue (keeps_order courses h e) → IsTrue (is_clear table courses g e) → IsTrue (is_clear table courses h e)
    clear_before (Start i) stays order clear = clear
    clear_before (Act e) stays order clear = act_before e stays order e.undo refl clear
    clear_before (End i) stays order clear = clear-end table courses h i (front_before i (end-clear table courses g i clear))
