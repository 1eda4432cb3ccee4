-- Who shares nothing is left alone: whatever the others hold conflicts with no step of it.
use Rattle.std.proofs.Common.{◌≡◌, ⊎_elim, ℕ, ◌<◌, Bool, true, false, not, eqb, ◌&&◌, ◌||◌, List, [], ◌∷◌, ◌++◌, length, sym, refl, ap, subst, ◌∙◌, arith}
use Rattle.std.specs.List.{list_any}
use Rattle.std.proofs.Math.Bool.{and-false}
use Rattle.std.proofs.lemmas.Bool.{eqb-true, false≢true, not-true}
use Rattle.process_tree.specs.Entries.{access_of}
use Rattle.process_tree.specs.Recovery.{StepClass, reserved, committing, undoable}
use Rattle.process_tree.specs.declared.entry.Entry.{Entry}
use Rattle.process_tree.specs.declared.plan.Plan.{Plan}
use Rattle.process_tree.proofs.Numbers.{numbers_has}
use Rattle.schedule_model.specs.Course.{Course, access_at, course, courses_of}
use Rattle.schedule_model.specs.Conflict.{ConflictRelation, IsSymmetric, conflict}
use Rattle.schedule_model.specs.Histories.{active, doing, is_active, is_in, net_steps}
use Rattle.schedule_model.specs.Holdings.{Holdings, active_net, all_pending, all_reserved, all_running, behind, holders}
use Rattle.schedule_model.specs.Blocking.{against, against_step, against_undo, in_front}
use Rattle.schedule_model.specs.Laws.{AreGood}
use Rattle.schedule_model.specs.Legal.{class_in}
use Rattle.schedule_model.specs.OwnOrder.{keeps_order}
use Rattle.schedule_model.specs.Recovery.{owed_after}
use Rattle.schedule_model.proofs.Active.{is_active-is_in}
use Rattle.schedule_model.proofs.Behind.{among_behind}
use Rattle.schedule_model.proofs.Clear.{Nothing, against-none, circle-none, front-none}
use Rattle.schedule_model.proofs.Conflicts.{conflict-itself}
use Rattle.schedule_model.proofs.Members.{Among, all-among, among-append, among-filter, append-none, flat_map-none, among-is_in}
use Rattle.schedule_model.proofs.Walks.{any-is_in}
use Rattle.machine_model.specs.declared.kept.Work.{Work}
use Rattle.machine_model.specs.declared.kept.Work.TheVariants.{Forward, Undo, End}
use Rattle.machine_model.specs.Moment.{Moment}
use Rattle.machine_model.specs.State.{against_work, holdings, next_of}
use Rattle.machine_model.specs.Advance.{event_by}
use Rattle.machine_model.specs.Laws.{open_only}
use Rattle.machine_model.proofs.NextInOrder.{next_keeps}
use Rattle.machine_model.proofs.OwnOrder.{InOwnOrder}
use Rattle.user_guarantees.specs.Independence.{shares_nothing, steps_conflict, steps_in}
use Rattle.user_guarantees.proofs.HeldEntries.{IsHeld, held_net, held_pending, held_reserved, held_running}
use Rattle.user_guarantees.proofs.KnownEntries.{IsKnown, IsStepOf, known_owed, step-keeps, undo-keeps}

-- steps that are no steps of a conflict don't
no_conflict_of : (table : ConflictRelation) (courses : List Course) (i k b d : ℕ) → steps_conflict table courses i k ≡ false → b < length (course courses i).ops → d < length (course courses k).ops
    → table (access_at courses i b) (access_at courses k d) ≡ false
no_conflict_of table courses i k b d none first second = by_test (table (access_at courses i b) (access_at courses k d)) refl
  where
    by_test : (t : Bool) → table (access_at courses i b) (access_at courses k d) ≡ t → table (access_at courses i b) (access_at courses k d) ≡ false
    by_test false is = is
    by_test true is =
        absurd (false≢true (sym none
        ∙ any-is_in (λ x. list_any (λ y. table (access_at courses i x) (access_at courses k y)) (steps_in courses k)) b (steps_in courses i) (numbers_has b 0 (length (course courses i).ops) (omega arith) (omega arith))
        (any-is_in (λ y. table (access_at courses i b) (access_at courses k y)) d (steps_in courses k) (numbers_has d 0 (length (course courses k).ops) (omega arith) (omega arith)) is)))

module _ (table : ConflictRelation) (symmetric : IsSymmetric table) (plans : List Plan) (good : AreGood plans) (m : Moment) (own : InOwnOrder table plans good m)
    (i : ℕ) (goes : is_active m.events i ≡ true) (alone : shares_nothing table (courses_of plans) m.events i ≡ true) where
  abbrev cs : List Course
  cs = courses_of plans

  -- an entry of the process conflicts with nothing that an active process holds
  pub apart : (x y : Entry) → IsKnown plans good x → x.process ≡ i → IsHeld table plans good m own y → conflict table x y ≡ false
  apart x y known its held = by_process (eqb y.process i) refl
    where
      by_process : (t : Bool) → eqb y.process i ≡ t → conflict table x y ≡ false
      by_process true same = conflict-itself table x y (its ∙ sym (eqb-true y.process i same))
      by_process false other =
          let listed = all-among (λ k. eqb k i || not (steps_conflict table cs i k)) (active m.events) alone y.process (among-is_in y.process (active m.events) (is_active-is_in m.events y.process ∙ held.1)) in
          let none = not-true (steps_conflict table cs i y.process) (sym (ap (λ t. t || not (steps_conflict table cs i y.process)) other) ∙ listed) in
          let free = no_conflict_of table cs i y.process x.step y.step none (subst (λ k. IsStepOf plans good k x.step) its known.1) held.0.1 in
          ap (λ t. not (eqb x.process y.process) && t) (ap (λ a. table a (access_of y)) (known.0 ∙ ap (λ k. access_at cs k x.step) its) ∙ (ap (table (access_at cs i x.step)) held.0.0 ∙ free))
          ∙ and-false (not (eqb x.process y.process))

  -- The next piece, by what the open processes hold.
  abbrev g : Holdings
  g = open_only (holdings (courses_of plans) m)

  in_net : (x : Entry) → Among x (active_net g) → Among x g.net
  in_net x is = (among-filter (λ (e : Entry). is_in e.process (holders g)) x g.net is).0

  stands : (x : Entry) → Among x g.net → IsHeld table plans good m own x
  stands x is = held_net table plans good m own x is

  front_apart : (x y : Entry) → Among x (active_net g) → Among y (behind x (active_net g)) → y.process ≡ i → conflict table y x ≡ false
  front_apart x y front back its =
      apart y x (stands y (in_net y (among_behind x y (active_net g) back))).0 its (stands x (in_net x front))

  module _ (x : Entry) (known : IsKnown plans good x) (its : x.process ≡ i) where
    net_apart : (y : Entry) → Among y (active_net g) → conflict table x y ≡ false
    net_apart y is = apart x y known its (stands y (in_net y is))

    running_apart : (y : Entry) → Among y (all_running g) → conflict table x y ≡ false
    running_apart y is = apart x y known its (held_running table plans good m own y is)

    reserved_apart : (y : Entry) → Among y (all_reserved g) → conflict table x y ≡ false
    reserved_apart y is = apart x y known its (held_reserved table plans good m own y is)

    pending_apart : (y : Entry) → Among y (all_pending g) → conflict table x y ≡ false
    pending_apart y is = apart x y known its (held_pending table plans good m own y is)

    reserved_or_pending : (y : Entry) → Among y (all_reserved g ++ all_pending g) → conflict table x y ≡ false
    reserved_or_pending y is = ⊎_elim (reserved_apart y) (pending_apart y) (among-append y (all_reserved g) (all_pending g) is)

    owed_apart : (y : Entry) → Among y (active_net g ++ all_running g ++ all_reserved g) → conflict table x y ≡ false
    owed_apart y is =
        ⊎_elim (λ front. ⊎_elim (net_apart y) (running_apart y) (among-append y (active_net g) (all_running g) front)) (reserved_apart y)
        (among-append y (active_net g ++ all_running g) (all_reserved g) is)

    no_circle : (y : Entry) → Among y (active_net g) → conflict table x y ≡ true → ⊥
    no_circle y is conflicts = false≢true (sym (net_apart y is) ∙ conflicts)

  step_clear : (c : StepClass) (b : ℕ) → IsStepOf plans good i b → Nothing (against_step table g c (doing cs i b) (owed_after cs m.events i b))
  step_clear reserved b step =
      let x = doing cs i b in
      record { a0 = against-none table x (all_running g) (running_apart x (refl, step) refl); a1 = against-none table x (all_reserved g ++ all_pending g) (reserved_or_pending x (refl, step) refl); a2 = refl; a3 = refl; a4 = refl; a5 = refl }
  step_clear undoable b step =
      let x = doing cs i b in
      record {
        a0 = against-none table x (all_running g) (running_apart x (refl, step) refl);
        a1 = against-none table x (all_reserved g ++ all_pending g) (reserved_or_pending x (refl, step) refl);
        a2 = circle-none table g x (λ y is conflicts. absurd (no_circle x (refl, step) refl y is conflicts));
        a3 = refl;
        a4 = refl;
        a5 = refl;
      }
  step_clear committing b step =
      let x = doing cs i b in
      record {
        a0 = against-none table x (all_running g) (running_apart x (refl, step) refl);
        a1 = against-none table x (all_reserved g ++ all_pending g) (reserved_or_pending x (refl, step) refl);
        a2 = refl;
        a3 = append-none (against table x (active_net g)) (in_front table g i) (against-none table x (active_net g) (net_apart x (refl, step) refl)) (front-none table g i front_apart);
        a4 = flat_map-none (λ s. against table s (active_net g ++ all_running g ++ all_reserved g)) (owed_after cs m.events i b)
            (λ s owes. let known = known_owed plans good i (net_steps m.events i ++ b ∷ []) s owes in against-none table s (active_net g ++ all_running g ++ all_reserved g) (owed_apart s known.0 known.1));
        a5 = refl;
      }

  undo_clear : (b : ℕ) → IsStepOf plans good i b → Nothing (against_undo table g (doing cs i b))
  undo_clear b step =
      let x = doing cs i b in
      record { a0 = refl; a1 = refl; a2 = refl; a3 = refl; a4 = refl; a5 = against-none table x (behind x g.net) (λ y back. apart x y (refl, step) refl (stands y (among_behind x y g.net back))) }

  work_clear : (b : ℕ) (w : Work) → keeps_order cs m.events (event_by cs i b w) ≡ true → Nothing (against_work table cs g m.events i b w)
  work_clear b Forward keeps = step_clear (class_in cs m.events i b) b (step-keeps plans good m.events i b keeps)
  work_clear b Undo keeps = undo_clear b (undo-keeps plans good m.events i b own.legal keeps)
  work_clear b End keeps = record { a0 = refl; a1 = refl; a2 = refl; a3 = front-none table g i front_apart; a4 = refl; a5 = refl }

  -- nothing stands against its next piece
  pub next_clear : let t = next_of cs m i in Nothing (against_work table cs g m.events i t.step t.work)
  next_clear = let t = next_of cs m i in work_clear t.step t.work (next_keeps plans good m own.legal i (own.ahead i) goes)
