-- What a piece that takes no effect makes of an engine: one for which there is no memory, and one that is no longer out.
use Rattle.std.proofs.Common.{◌≡◌, ◌∙◌, ◌+◌, ℕ, length, ap}
use Rattle.process_disk.specs.Disk.{Disk, Told}
use Rattle.process_disk.specs.Images.{EachImage}
use Rattle.process_tree.specs.declared.play.Outcome.{Outcome}
use Rattle.process_tree.specs.declared.play.Outcome.TheVariants.{Done as Succeeds}
use Rattle.machine_model.specs.declared.kept.Work.TheVariants.{Forward}
use Rattle.machine_model.specs.declared.replies.PieceState.{PieceState}
use Rattle.machine_model.specs.declared.replies.PieceState.TheVariants.{Out, Dropped as WasDropped, Over as IsOver}
use Rattle.machine_model.specs.Moment.{Piece}
use Rattle.machine_model.specs.Pieces.{piece_of, state_of}
use Rattle.machine_model.specs.Replies.{Handed, finish_by, finish_piece, finish_reply, out_finish}
use Rattle.machine_model.proofs.Snoc.{now-kept}
use Rattle.process_core.specs.Cores.{CoreState, IsHandedBy, courses_in, history_of, machine_of, moment_of, relation}
use Rattle.process_core.proofs.CoreEffects.{reply_is}
use Rattle.history_files.specs.Sound.{IsSound}
use Rattle.engine_steps.specs.Engines.{EngineState, full_history}
use Rattle.process_engine.specs.Finishing.{Finishes}
use Rattle.engine_steps.specs.declared.engines.Phase.TheVariants as phase
use Rattle.process_engine.specs.declared.finishing.Finish.TheVariants.{Over, Dropped, NoMemory}

-- what is answered to a piece in a state
pub reply_by : (c : CoreState) (p : Piece) → IsHandedBy c p → (outcome : Outcome) (s : PieceState) → state_of (moment_of c) p.number ≡ s
    → finish_reply (relation c) (courses_in c) (moment_of c) p.number outcome ≡ finish_by (out_finish (relation c) (courses_in c) (moment_of c) p outcome) s
reply_by c p handed outcome s state =
    ap (finish_piece (relation c) (courses_in c) (moment_of c) outcome) (ap (λ ks. piece_of ks p.number) (now-kept (relation c) (machine_of c)) ∙ handed)
    ∙ ap (finish_by (out_finish (relation c) (courses_in c) (moment_of c) p outcome)) state

module _ {R B : Type 0} (disk : R → Disk) (old new : EngineState R B) (p : Handed) (handed : IsHandedBy old.core p.piece)
    (images : Told (disk old.files.rack) → EachImage (disk new.files.rack) (disk old.files.rack).moment (IsSound old.catalog (full_history old.core))) where
  -- a piece for which there is no memory is out still
  pub unfinished : state_of (moment_of old.core) p.piece.number ≡ Out → (q : Handed) → q ≡ p → p.piece.work ≡ Forward → new.core ≡ old.core → new.catalog ≡ old.catalog
      → new.phase ≡ phase.Settled → new.files.rack ≡ old.files.rack → Finishes disk old new p Succeeds (NoMemory q)
  unfinished out q same work core catalog settled rack = record {
    reply = (length (history_of old.core) + 1, reply_is old.core p.piece handed out);
    left = (record { core = core; catalog = catalog; phase = settled }, same, work, rack);
    any_moment = images;
    acknowledged = tt;
  }

  -- a piece that is no longer out leaves all
  pub is_over : (outcome : Outcome) → state_of (moment_of old.core) p.piece.number ≡ IsOver → new ≡ old → Finishes disk old new p outcome Over
  is_over outcome state same = record { reply = reply_by old.core p.piece handed outcome IsOver state; left = same; any_moment = images; acknowledged = tt }

  pub is_dropped : (outcome : Outcome) (k : ℕ) → state_of (moment_of old.core) p.piece.number ≡ WasDropped k → new ≡ old → Finishes disk old new p outcome (Dropped k)
  is_dropped outcome k state same = record { reply = reply_by old.core p.piece handed outcome (WasDropped k) state; left = same; any_moment = images; acknowledged = tt }
