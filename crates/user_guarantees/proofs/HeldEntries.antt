-- What active processes hold in a session is known, and of them.
use Rattle.std.proofs.Common.{◌≡◌, inl, inr, ⊎_elim, ℕ, true, eqb, List, [], ◌∷◌, ◌++◌, map, Option, Some, None, sym, refl, ap, subst, ◌∙◌}
use Rattle.std.specs.Option.{option_to_list}
use Rattle.process_tree.specs.Recovery.{StepClass, reserved, committing, undoable, forward}
use Rattle.process_tree.specs.declared.entry.Entry.{Entry}
use Rattle.process_tree.specs.declared.plan.Plan.{Plan}
use Rattle.schedule_model.specs.Course.{Course, courses_of, shape}
use Rattle.schedule_model.specs.Conflict.{ConflictRelation}
use Rattle.schedule_model.specs.Histories.{active, doing, is_active, is_in, net, net_of, net_steps, undoing}
use Rattle.schedule_model.specs.Holdings.{Hold, Holdings, active_net, all_pending, all_reserved, all_running, holders}
use Rattle.schedule_model.specs.Laws.{AreGood}
use Rattle.schedule_model.specs.Legal.{class_in}
use Rattle.schedule_model.specs.OwnOrder.{keeps_order}
use Rattle.schedule_model.specs.Recovery.{owed, owed_after}
use Rattle.schedule_model.proofs.Active.{is_active-is_in}
use Rattle.schedule_model.proofs.Members.{Among, among-append, among-filter, among-flat_map, among-map, is_in-among}
use Rattle.schedule_model.proofs.Started.{among_net_of}
use Rattle.machine_model.specs.declared.kept.Work.{Work}
use Rattle.machine_model.specs.declared.kept.Work.TheVariants.{Forward, Undo, End}
use Rattle.machine_model.specs.Moment.{Moment, Piece}
use Rattle.machine_model.specs.Pieces.{running_of}
use Rattle.machine_model.specs.State.{entry_by, entry_of, hold_of, holdings, owed_by_class, owed_by_work, owed_soon, progress}
use Rattle.machine_model.specs.Advance.{event_by}
use Rattle.machine_model.specs.Progress.{staying}
use Rattle.machine_model.proofs.HandedPieces.{runs_active}
use Rattle.machine_model.proofs.OpenHoldings.{holds-active}
use Rattle.machine_model.proofs.OwnOrder.{InOwnOrder, piece_keeps}
use Rattle.machine_model.proofs.PendingFree.{in_whole}
use Rattle.machine_model.proofs.RunningNext.{IsNextPiece}
use Rattle.machine_model.proofs.TidyMoments.{Each-find}
use Rattle.user_guarantees.proofs.KnownEntries.{IsKnown, known_net, known_owed, step-keeps, undo-keeps}

module _ (table : ConflictRelation) (plans : List Plan) (good : AreGood plans) (m : Moment) (own : InOwnOrder table plans good m) where
  abbrev cs : List Course
  cs = courses_of plans

  abbrev g : Holdings
  g = holdings (courses_of plans) m

  -- a known entry of an active process
  abbrev pub IsHeld : Entry → Type 0
  IsHeld x = IsKnown plans good x × (is_active m.events x.process ≡ true)

  of_active : (k : ℕ) (x : Entry) → is_active m.events k ≡ true → IsKnown plans good x → x.process ≡ k → IsHeld x
  of_active k x goes known its = (known, ap (is_active m.events) its ∙ goes)

  pub held_net : (x : Entry) → Among x (active_net g) → IsHeld x
  held_net x is =
      let found = among-filter (λ (e : Entry). is_in e.process (holders g)) x (net m.events) is in
      (known_net plans good m.events own.legal x found.0, sym (holds-active cs m x.process) ∙ found.1)

  -- who holds something is active
  holder : (k : ℕ) → Among k (active m.events) → is_active m.events k ≡ true
  holder k is = sym (is_active-is_in m.events k) ∙ is_in-among k (active m.events) is

  -- a piece that is out is of a step of its process
  out_step : (k : ℕ) (p : Piece) (w : Work) → running_of m k ≡ Some p → p.work ≡ w → keeps_order cs m.events (event_by cs p.process p.step w) ≡ true
  out_step k p w runs work =
      let goes = runs_active table cs m k p own.active runs in
      ap (λ v. keeps_order cs m.events (event_by cs p.process p.step v)) (sym work)
      ∙ piece_keeps table plans good m p own (Each-find (IsNextPiece cs m) (λ q. eqb q.process k) m.out p own.order.next runs) (ap (is_active m.events) goes.0 ∙ goes.1)

  pub held_running : (x : Entry) → Among x (all_running g) → IsHeld x
  held_running x is =
      let found = among-flat_map (λ (o : Hold). option_to_list o.running) x g.holds is in
      let hold = among-map (hold_of cs m) found.0 (active m.events) found.1 in
      by_running hold.0 (running_of m hold.0) refl (subst (λ (o : Hold). Among x (option_to_list o.running)) (sym hold.2) found.2)
    where
      by_work : (k : ℕ) (p : Piece) (w : Work) → running_of m k ≡ Some p → p.work ≡ w → Among x (option_to_list (entry_by cs p.process p.step w)) → IsHeld x
      by_work k p Forward runs work (inl same) =
          let goes = runs_active table cs m k p own.active runs in
          subst IsHeld same (of_active k (doing cs p.process p.step) goes.1 (refl, step-keeps plans good m.events p.process p.step (out_step k p Forward runs work)) goes.0)
      by_work k p Forward runs work (inr none) = absurd none
      by_work k p Undo runs work (inl same) =
          let goes = runs_active table cs m k p own.active runs in
          subst IsHeld same (of_active k (undoing (doing cs p.process p.step)) goes.1 (refl, undo-keeps plans good m.events p.process p.step own.legal (out_step k p Undo runs work)) goes.0)
      by_work k p Undo runs work (inr none) = absurd none
      by_work k p End runs work none = absurd none

      by_running : (k : ℕ) (o : Option Piece) → running_of m k ≡ o → Among x (option_to_list (entry_of cs (running_of m k))) → IsHeld x
      by_running k None runs listed = absurd (subst (λ o. Among x (option_to_list (entry_of cs o))) runs listed)
      by_running k (Some p) runs listed = by_work k p p.work runs refl (subst (λ o. Among x (option_to_list (entry_of cs o))) runs listed)

  -- what process k owes after steps w
  held_owed : (k i : ℕ) (w : List ℕ) (x : Entry) → is_active m.events k ≡ true → i ≡ k → Among x (map (doing cs i) (forward (shape cs i) w)) → IsHeld x
  held_owed k i w x goes same is = let known = known_owed plans good i w x is in of_active k x goes known.0 (known.1 ∙ same)

  pub held_reserved : (x : Entry) → Among x (all_reserved g) → IsHeld x
  held_reserved x is =
      let found = among-flat_map (λ (o : Hold). o.reserved) x g.holds is in
      let hold = among-map (hold_of cs m) found.0 (active m.events) found.1 in
      let k = hold.0 in
      ⊎_elim (λ owes. held_owed k k (net_steps m.events k) x (holder k hold.1) refl owes) (by_running k (running_of m k) refl)
      (among-append x (owed cs m.events k) (owed_soon cs m.events (running_of m k)) (subst (λ (o : Hold). Among x o.reserved) (sym hold.2) found.2))
    where
      by_class : (k : ℕ) (p : Piece) (c : StepClass) → running_of m k ≡ Some p → Among x (owed_by_class c (owed_after cs m.events p.process p.step)) → IsHeld x
      by_class k p reserved runs none = absurd none
      by_class k p undoable runs none = absurd none
      by_class k p committing runs owes = let goes = runs_active table cs m k p own.active runs in held_owed k p.process (net_steps m.events p.process ++ p.step ∷ []) x goes.1 goes.0 owes

      by_work : (k : ℕ) (p : Piece) (w : Work) → running_of m k ≡ Some p → Among x (owed_by_work cs m.events p.process p.step w) → IsHeld x
      by_work k p Forward runs owes = by_class k p (class_in cs m.events p.process p.step) runs owes
      by_work k p Undo runs none = absurd none
      by_work k p End runs none = absurd none

      by_running : (k : ℕ) (o : Option Piece) → running_of m k ≡ o → Among x (owed_soon cs m.events (running_of m k)) → IsHeld x
      by_running k None runs owes = absurd (subst (λ o. Among x (owed_soon cs m.events o)) runs owes)
      by_running k (Some p) runs owes = by_work k p p.work runs (subst (λ o. Among x (owed_soon cs m.events o)) runs owes)

  -- what an active process has done, it holds
  pub held_net_of : (k : ℕ) (x : Entry) → is_active m.events k ≡ true → Among x (net_of m.events k) → IsHeld x
  held_net_of k x goes is = let stands = among_net_of m.events k x is in of_active k x goes (known_net plans good m.events own.legal x stands.0) stands.1

  pub held_pending : (x : Entry) → Among x (all_pending g) → IsHeld x
  held_pending x is =
      let found = among-flat_map (λ (o : Hold). o.pending) x g.holds is in
      let hold = among-map (hold_of cs m) found.0 (active m.events) found.1 in
      let k = hold.0 in
      held_net_of k x (holder k hold.1) (in_whole x (staying (progress cs m k)) (net_of m.events k) (subst (λ (o : Hold). Among x o.pending) (sym hold.2) found.2))
