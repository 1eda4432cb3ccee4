-- What stands behind a net entry stood behind it before, or is a step that takes effect now.
use Rattle.std.proofs.Common.{◌≡◌, ◌⊎◌, inl, inr, ⊎_elim, ℕ, true, List, [], ◌∷◌, ◌++◌, Option, Some, None, sym, refl, ap, subst, ◌∙◌, append-nil}
use Rattle.process_tree.specs.declared.entry.Entry.{Entry}
use Rattle.process_tree.specs.declared.plan.Plan.{Plan}
use Rattle.schedule_model.specs.declared.event.Event.{Event}
use Rattle.schedule_model.specs.declared.event.Event.TheVariants.{Act}
use Rattle.schedule_model.specs.Course.{Course, courses_of}
use Rattle.schedule_model.specs.Conflict.{ConflictRelation, no_conflict}
use Rattle.schedule_model.specs.Histories.{doing, net, undoing}
use Rattle.schedule_model.specs.Holdings.{behind}
use Rattle.schedule_model.specs.Laws.{AreGood}
use Rattle.schedule_model.specs.OwnOrder.{keeps_order}
use Rattle.schedule_model.proofs.Members.{Among}
use Rattle.schedule_model.proofs.NewSteps.{step-is_new}
use Rattle.schedule_model.proofs.NoConflict.{may_come-no_conflict}
use Rattle.schedule_model.proofs.Orders.{behind-do, behind-undo}
use Rattle.schedule_model.proofs.Snoc.{net-end, net-start}
use Rattle.machine_model.specs.declared.kept.Kept.{Kept}
use Rattle.machine_model.specs.declared.kept.Kept.TheVariants.{Start, Hand, Effect, Refuse, Abort, Victim, Restart}
use Rattle.machine_model.specs.declared.kept.Work.{Work}
use Rattle.machine_model.specs.declared.kept.Work.TheVariants.{Forward, Undo, End}
use Rattle.machine_model.specs.Moment.{Moment, Piece}
use Rattle.machine_model.specs.Pieces.{piece_of, runs}
use Rattle.machine_model.specs.Advance.{advance, event_by}
use Rattle.machine_model.specs.Runs.{may_be_kept}
use Rattle.machine_model.proofs.Frames.{piece_of-plain}
use Rattle.machine_model.proofs.HoldChanges.{keeps_at}
use Rattle.machine_model.proofs.OwnOrder.{InOwnOrder}
use Rattle.machine_model.proofs.Snoc.{added, added_by_piece, advances}

-- the event is the effect of the step whose entry this is
pub record StepNow (courses : List Course) (m : Moment) (k : Kept) (e : Entry) : Type 0 where
  pub number : ℕ
  pub piece : Piece
  pub is_effect : k ≡ Effect number
  pub found : piece_of m.kept number ≡ Some piece
  pub is_step : piece.work ≡ Forward
  pub is : e ≡ doing courses piece.process piece.step

module _ (table : ConflictRelation) (plans : List Plan) (good : AreGood plans) where
  abbrev cs : List Course
  cs = courses_of plans

  -- what stands behind an entry stood behind it before, or is a step that takes effect now
  abbrev BehindBefore : Moment → Kept → Entry → Entry → Type 0
  BehindBefore m k x e = Among x (net m.events) × (Among e (behind x (net m.events)) ⊎ StepNow (courses_of plans) m k e)

  pub behind_before : (m : Moment) (k : Kept) (x e : Entry) → InOwnOrder table plans good m → may_be_kept table cs m k ≡ true
      → Among x (net (advance table cs m k).events) → Among e (behind x (net (advance table cs m k).events)) → BehindBefore m k x e
  behind_before m k x e own may there back = by_event k may (subst (λ h. Among x (net h)) (advances table cs m k).events there) (subst (λ h. Among e (behind x (net h))) (advances table cs m k).events back)
    where
      plain : (k : Kept) (h : List Event) → net h ≡ net m.events → Among x (net h) → Among e (behind x (net h)) → BehindBefore m k x e
      plain k h same a b = (subst (Among x) same a, inl (subst (λ es. Among e (behind x es)) same b))

      by_work : (n : ℕ) (p : Piece) (w : Work) → p.work ≡ w → runs m n ≡ true → piece_of m.kept n ≡ Some p → Among x (net (m.events ++ event_by cs p.process p.step w ∷ [])) → Among e (behind x (net (m.events ++ event_by cs p.process p.step w ∷ []))) → BehindBefore m (Effect n) x e
      by_work n p End is out found a b = plain (Effect n) (m.events ++ event_by cs p.process p.step End ∷ []) (net-end m.events p.process) a b
      by_work n p Undo is out found a b = let f = behind-undo m.events (undoing (doing cs p.process p.step)) x e refl a b in (f.0, inl f.1)
      by_work n p Forward is out found a b =
          let s = doing cs p.process p.step in
          let keeps = ap (λ w. keeps_order cs m.events (event_by cs p.process p.step w)) (sym is) ∙ keeps_at table plans good m n p own out found in
          let f = behind-do m.events s x e refl (step-is_new no_conflict cs m.events own.legal s refl (may_come-no_conflict cs m.events (Act s) keeps)) a b in
          (f.0, ⊎_elim (λ before. inl before) (λ now. inr (record { number = n; piece = p; is_effect = refl; found = found; is_step = is; is = sym now })) f.1)

      by_piece : (n : ℕ) (o : Option Piece) → runs m n ≡ true → piece_of m.kept n ≡ o → Among x (net (m.events ++ added_by_piece table cs o)) → Among e (behind x (net (m.events ++ added_by_piece table cs o))) → BehindBefore m (Effect n) x e
      by_piece n None out found a b = plain (Effect n) (m.events ++ []) (ap net (append-nil m.events)) a b
      by_piece n (Some p) out found a b = by_work n p p.work refl out found a b

      by_event : (k : Kept) → may_be_kept table cs m k ≡ true → Among x (net (m.events ++ added table cs (m.kept ++ k ∷ []) k)) → Among e (behind x (net (m.events ++ added table cs (m.kept ++ k ∷ []) k))) → BehindBefore m k x e
      by_event (Start j) may' a b = plain (Start j) (m.events ++ added table cs (m.kept ++ Start j ∷ []) (Start j)) (net-start m.events j) a b
      by_event (Hand c d f w) may' a b = plain (Hand c d f w) (m.events ++ []) (ap net (append-nil m.events)) a b
      by_event (Refuse n) may' a b = plain (Refuse n) (m.events ++ []) (ap net (append-nil m.events)) a b
      by_event (Abort j) may' a b = plain (Abort j) (m.events ++ []) (ap net (append-nil m.events)) a b
      by_event (Victim j) may' a b = plain (Victim j) (m.events ++ []) (ap net (append-nil m.events)) a b
      by_event Restart may' a b = plain Restart (m.events ++ []) (ap net (append-nil m.events)) a b
      by_event (Effect n) may' a b =
          let at = piece_of-plain m.kept (Effect n) n refl in
          by_piece n (piece_of m.kept n) may' refl (subst (λ o. Among x (net (m.events ++ added_by_piece table cs o))) at a) (subst (λ o. Among e (behind x (net (m.events ++ added_by_piece table cs o)))) at b)
