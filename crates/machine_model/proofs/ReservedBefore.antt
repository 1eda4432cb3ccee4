-- Where what a process reserves, runs and has done comes from: it was there before, or its piece is handed out now.
use Rattle.std.proofs.Common.{◌≡◌, ◌⊎◌, inl, inr, ℕ, Bool, true, false, eqb, List, [], ◌∷◌, ◌++◌, map, Option, Some, None, sym, refl, ap, subst, ◌∙◌, append-nil}
use Rattle.std.proofs.lemmas.Bool.{eqb-true, false≢true}
use Rattle.process_tree.specs.declared.entry.Entry.{Entry}
use Rattle.process_tree.specs.declared.plan.Plan.{Plan}
use Rattle.process_tree.specs.Recovery.{StepClass, class_of, forward, reserved, committing, undoable}
use Rattle.schedule_model.specs.declared.event.Event.{Event}
use Rattle.schedule_model.specs.Course.{Course, courses_of, shape}
use Rattle.schedule_model.specs.Conflict.{ConflictRelation}
use Rattle.schedule_model.specs.Histories.{doing, net_of, steps_of, undoing}
use Rattle.schedule_model.specs.Laws.{AreGood}
use Rattle.schedule_model.specs.Legal.{class_in}
use Rattle.schedule_model.specs.Recovery.{owed, owed_after}
use Rattle.schedule_model.proofs.Members.{Among, among-append, among-left, among-right}
use Rattle.schedule_model.proofs.Snoc.{net_of-end, net_of-other, net_of-start, owed-by_net}
use Rattle.machine_model.specs.declared.kept.Kept.{Kept}
use Rattle.machine_model.specs.declared.kept.Kept.TheVariants.{Start, Hand, Effect, Refuse, Abort, Victim, Restart}
use Rattle.machine_model.specs.declared.kept.Work.{Work}
use Rattle.machine_model.specs.declared.kept.Work.TheVariants.{Forward, Undo, End}
use Rattle.machine_model.specs.Moment.{Moment, Piece}
use Rattle.machine_model.specs.Pieces.{piece_of, running_of}
use Rattle.machine_model.specs.State.{hold_of, owed_by_class, owed_by_work, owed_soon}
use Rattle.machine_model.specs.Advance.{advance, event_by}
use Rattle.machine_model.specs.Runs.{may_be_kept}
use Rattle.machine_model.specs.HoldLaws.{StepTakesEffect}
use Rattle.machine_model.proofs.CallsKept.{find-passes}
use Rattle.machine_model.proofs.Frames.{piece_of-plain}
use Rattle.machine_model.proofs.HandedPieces.{RanOrHanded, ran_before}
use Rattle.machine_model.proofs.HoldChanges.{step_takes_effect, undo_takes_effect}
use Rattle.machine_model.proofs.OwnOrder.{InOwnOrder}
use Rattle.machine_model.proofs.Snoc.{added, added_by_piece, advances}

-- the piece that a process runs is of it
runs_of : (m : Moment) (i : ℕ) (p : Piece) → running_of m i ≡ Some p → p.process ≡ i
runs_of m i p is = eqb-true p.process i (find-passes (λ (q : Piece). eqb q.process i) m.out p is)

abbrev is_end : Work → Bool
is_end End = true
is_end Forward = false
is_end Undo = false

-- what a step of its process under way reserves depends on the net of the process alone
soon-by_net : (courses : List Course) (g h : List Event) (i b : ℕ) (w : Work) → net_of g i ≡ net_of h i → owed_by_work courses g i b w ≡ owed_by_work courses h i b w
soon-by_net courses g h i b Forward same = ap (λ ws. owed_by_class (class_of (shape courses i) ws b) (map (doing courses i) (forward (shape courses i) (ws ++ b ∷ [])))) (ap steps_of same)
soon-by_net courses g h i b Undo same = refl
soon-by_net courses g h i b End same = refl

-- the event is the effect of a step of process i, or of the undo of one
pub record OwnEffect (m : Moment) (k : Kept) (i : ℕ) : Type 0 where
  pub piece : ℕ
  pub number : ℕ
  pub step : ℕ
  pub work : Work
  pub is_effect : k ≡ Effect piece
  pub found : piece_of m.kept piece ≡ Some (record { number = number; process = i; step = step; work = work })
  pub no_end : (work ≡ Forward) ⊎ (work ≡ Undo)

-- what a hand to process i will make it owe
pub record NewReserved (courses : List Course) (m : Moment) (k : Kept) (i : ℕ) (r : Entry) : Type 0 where
  pub number : ℕ
  pub step : ℕ
  pub is_hand : k ≡ Hand number i step Forward
  pub owes : Among r (owed_by_class (class_in courses m.events i step) (owed_after courses m.events i step))

module _ (table : ConflictRelation) (courses : List Course) (m : Moment) where
  -- an event leaves the net of process i, or is such an effect
  pub net_same_or_own : (k : Kept) (i : ℕ) → (net_of (advance table courses m k).events i ≡ net_of m.events i) ⊎ OwnEffect m k i
  net_same_or_own k i = moved k (by_event k)
    where
      moved : (k : Kept) → (net_of (m.events ++ added table courses (m.kept ++ k ∷ []) k) i ≡ net_of m.events i) ⊎ OwnEffect m k i → (net_of (advance table courses m k).events i ≡ net_of m.events i) ⊎ OwnEffect m k i
      moved k (inl same) = inl (ap (λ h. net_of h i) (advances table courses m k).events ∙ same)
      moved k (inr own) = inr own

      by_piece : (n : ℕ) (o : Option Piece) → piece_of m.kept n ≡ o → (net_of (m.events ++ added_by_piece table courses o) i ≡ net_of m.events i) ⊎ OwnEffect m (Effect n) i
      by_piece n None found = inl (ap (λ h. net_of h i) (append-nil m.events))
      by_piece n (Some p) found = by_process (eqb p.process i) refl p.work refl
        where
          by_process : (t : Bool) → eqb p.process i ≡ t → (w : Work) → p.work ≡ w → (net_of (m.events ++ event_by courses p.process p.step p.work ∷ []) i ≡ net_of m.events i) ⊎ OwnEffect m (Effect n) i
          by_process t at End is = inl (ap (λ w. net_of (m.events ++ event_by courses p.process p.step w ∷ []) i) is ∙ net_of-end m.events p.process i)
          by_process false at Forward is = inl (ap (λ w. net_of (m.events ++ event_by courses p.process p.step w ∷ []) i) is ∙ net_of-other m.events (doing courses p.process p.step) i at)
          by_process false at Undo is = inl (ap (λ w. net_of (m.events ++ event_by courses p.process p.step w ∷ []) i) is ∙ net_of-other m.events (undoing (doing courses p.process p.step)) i at)
          by_process true at Forward is = inr (record { piece = n; number = p.number; step = p.step; work = p.work; is_effect = refl; found = found ∙ ap (λ j. Some (record { number = p.number; process = j; step = p.step; work = p.work })) (eqb-true p.process i at); no_end = inl is })
          by_process true at Undo is = inr (record { piece = n; number = p.number; step = p.step; work = p.work; is_effect = refl; found = found ∙ ap (λ j. Some (record { number = p.number; process = j; step = p.step; work = p.work })) (eqb-true p.process i at); no_end = inr is })

      by_event : (k : Kept) → (net_of (m.events ++ added table courses (m.kept ++ k ∷ []) k) i ≡ net_of m.events i) ⊎ OwnEffect m k i
      by_event (Start j) = inl (net_of-start m.events j i)
      by_event (Hand a b c d) = inl (ap (λ h. net_of h i) (append-nil m.events))
      by_event (Refuse n) = inl (ap (λ h. net_of h i) (append-nil m.events))
      by_event (Abort j) = inl (ap (λ h. net_of h i) (append-nil m.events))
      by_event (Victim j) = inl (ap (λ h. net_of h i) (append-nil m.events))
      by_event Restart = inl (ap (λ h. net_of h i) (append-nil m.events))
      by_event (Effect n) = by_effect (by_piece n (piece_of m.kept n) refl)
        where
          by_effect : (net_of (m.events ++ added_by_piece table courses (piece_of m.kept n)) i ≡ net_of m.events i) ⊎ OwnEffect m (Effect n) i → (net_of (m.events ++ added_by_piece table courses (piece_of (m.kept ++ Effect n ∷ []) n)) i ≡ net_of m.events i) ⊎ OwnEffect m (Effect n) i
          by_effect (inl same) = inl (ap (λ o. net_of (m.events ++ added_by_piece table courses o) i) (piece_of-plain m.kept (Effect n) n refl) ∙ same)
          by_effect (inr own) = inr own

module _ (table : ConflictRelation) (plans : List Plan) (good : AreGood plans) where
  abbrev cs : List Course
  cs = courses_of plans

  -- what is reserved where the net stays
  reserved_same : (m : Moment) (k : Kept) (i : ℕ) (r : Entry) → InOwnOrder table plans good m → may_be_kept table cs m k ≡ true → net_of (advance table cs m k).events i ≡ net_of m.events i
      → Among r (hold_of cs (advance table cs m k) i).reserved → Among r (hold_of cs m i).reserved ⊎ NewReserved cs m k i r
  reserved_same m k i r own may same is = by_part (among-append r (owed cs after.events i) (owed_soon cs after.events (running_of after i)) is)
    where
      after : Moment
      after = advance table cs m k

      old : (p : Piece) → running_of m i ≡ Some p → Among r (owed_soon cs m.events (Some p)) → Among r (hold_of cs m i).reserved
      old p before soon = among-right r (owed cs m.events i) (owed_soon cs m.events (running_of m i)) (subst (λ o. Among r (owed_soon cs m.events o)) (sym before) soon)

      new_by : (p : Piece) (w : Work) → k ≡ Hand p.number i p.step w → Among r (owed_by_work cs m.events i p.step w) → NewReserved cs m k i r
      new_by p Forward hand soon = record { number = p.number; step = p.step; is_hand = hand; owes = soon }
      new_by p Undo hand soon = absurd soon
      new_by p End hand soon = absurd soon

      by_source : (p : Piece) → Among r (owed_soon cs (advance table cs m k).events (Some p)) → RanOrHanded k i (running_of m i) p → (p.process ≡ i) → Among r (hold_of cs m i).reserved ⊎ NewReserved cs m k i r
      by_source p soon (inl before) its = inl (old p before (subst (Among r) (soon-by_net cs (advance table cs m k).events m.events p.process p.step p.work (ap (net_of (advance table cs m k).events) its ∙ (same ∙ sym (ap (net_of m.events) its)))) soon))
      by_source p soon (inr handed) its =
          inr (new_by p p.work (handed.0 ∙ ap (λ j. Hand p.number j p.step p.work) its)
          (subst (λ j. Among r (owed_by_work cs m.events j p.step p.work)) its (subst (Among r) (soon-by_net cs (advance table cs m k).events m.events p.process p.step p.work (ap (net_of (advance table cs m k).events) its ∙ (same ∙ sym (ap (net_of m.events) its)))) soon)))

      by_running : (o : Option Piece) → running_of (advance table cs m k) i ≡ o → Among r (owed_soon cs (advance table cs m k).events o) → Among r (hold_of cs m i).reserved ⊎ NewReserved cs m k i r
      by_running None at soon = absurd soon
      by_running (Some p) at soon = by_source p soon (ran_before table cs m k i p own.order.tidy may at) (runs_of (advance table cs m k) i p at)

      by_part : Among r (owed cs (advance table cs m k).events i) ⊎ Among r (owed_soon cs (advance table cs m k).events (running_of (advance table cs m k) i)) → Among r (hold_of cs m i).reserved ⊎ NewReserved cs m k i r
      by_part (inl owes) = inl (among-left r (owed cs m.events i) (owed_soon cs m.events (running_of m i)) (subst (Among r) (owed-by_net cs (advance table cs m k).events m.events i same) owes))
      by_part (inr soon) = by_running (running_of (advance table cs m k) i) refl soon

  -- after its own effect
  reserved_effect : (m : Moment) (k : Kept) (i : ℕ) (r : Entry) → InOwnOrder table plans good m → may_be_kept table cs m k ≡ true → OwnEffect m k i
      → Among r (hold_of cs (advance table cs m k) i).reserved → Among r (hold_of cs m i).reserved
  reserved_effect m k i r own may e is = by_work e.work refl e.no_end
    where
      may' : may_be_kept table cs m (Effect e.piece) ≡ true
      may' = ap (may_be_kept table cs m) (sym e.is_effect) ∙ may

      is' : Among r (hold_of cs (advance table cs m (Effect e.piece)) i).reserved
      is' = subst (λ x. Among r (hold_of cs (advance table cs m x) i).reserved) e.is_effect is

      found : (w : Work) → e.work ≡ w → piece_of m.kept e.piece ≡ Some (record { number = e.number; process = i; step = e.step; work = w })
      found w at = e.found ∙ ap (λ x. Some (record { number = e.number; process = i; step = e.step; work = x })) at

      by_class : StepTakesEffect cs m (advance table cs m (Effect e.piece)) i e.step (hold_of cs m i) (hold_of cs (advance table cs m (Effect e.piece)) i) → (c : StepClass) → class_in cs m.events i e.step ≡ c → Among r (hold_of cs m i).reserved
      by_class takes reserved at = subst (Among r) (sym (takes.owed_first at)) (inr is')
      by_class takes committing at = subst (Among r) (sym (takes.was_reserved at)) (among-right r (owed cs m.events i) (hold_of cs (advance table cs m (Effect e.piece)) i).reserved is')
      by_class takes undoable at = subst (Among r) (takes.still_reserved at) is'

      by_work : (w : Work) → e.work ≡ w → (e.work ≡ Forward) ⊎ (e.work ≡ Undo) → Among r (hold_of cs m i).reserved
      by_work Forward at either = by_class (step_takes_effect table plans good m e.piece e.number i e.step own may' (found Forward at)) (class_in cs m.events i e.step) refl
      by_work Undo at either = subst (Among r) (undo_takes_effect table plans good m e.piece e.number i e.step own may' (found Undo at)).still_reserved is'
      by_work End at (inl w) = absurd (never (sym at ∙ w))
        where
          never : End ≡ Forward → ⊥
          never x = false≢true (sym (ap (λ (v : Work). is_end v) x))
      by_work End at (inr w) = absurd (never (sym at ∙ w))
        where
          never : End ≡ Undo → ⊥
          never x = false≢true (sym (ap (λ (v : Work). is_end v) x))

  pub reserved_before : (m : Moment) (k : Kept) (i : ℕ) (r : Entry) → InOwnOrder table plans good m → may_be_kept table cs m k ≡ true
      → Among r (hold_of cs (advance table cs m k) i).reserved → Among r (hold_of cs m i).reserved ⊎ NewReserved cs m k i r
  reserved_before m k i r own may is = by_net (net_same_or_own table cs m k i)
    where
      by_net : (net_of (advance table cs m k).events i ≡ net_of m.events i) ⊎ OwnEffect m k i → Among r (hold_of cs m i).reserved ⊎ NewReserved cs m k i r
      by_net (inl same) = reserved_same m k i r own may same is
      by_net (inr e) = inl (reserved_effect m k i r own may e is)
