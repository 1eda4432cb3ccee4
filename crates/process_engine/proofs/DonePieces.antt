-- What a piece whose work is done makes of an engine, once there is room for its effect.
use Rattle.std.proofs.Common.{◌≡◌, ◌∙◌, ℕ, true, false, ap, subst}
use Rattle.process_disk.specs.Disk.{Disk, Told}
use Rattle.process_disk.specs.Images.{EachImage}
use Rattle.process_tree.specs.declared.play.Outcome.TheVariants.{Done as Succeeds, Refused as Fails}
use Rattle.machine_model.specs.Replies.{Handed}
use Rattle.process_core.specs.Cores.{IsCore}
use Rattle.history_files.specs.Sound.{IsSound, IsSoundForEither}
use Rattle.engine_steps.specs.Engines.{EngineState, full_history}
use Rattle.engine_steps.specs.Pieces.{IsStepOut, act_of, bars_act, history_with}
use Rattle.process_engine.specs.Finishing.{Finishes, SettlesPiece, is_barred, outcome_of}
use Rattle.process_engine.specs.Pieces.{IsOut}
use Rattle.process_engine.specs.declared.finishing.Finish.TheVariants.{Effected, DiskFault}
use Rattle.process_engine.specs.declared.gates.Answer.TheVariants.{Done}
use Rattle.gate_log.specs.declared.errors.DiskFault.{DiskFault as DiskFailed}
use Rattle.std.specs.Prelude.{Ok, Err}
use Rattle.process_engine.proofs.FinishedPieces.{barred_by_act, effected_finishes, failed_finishes}

-- the values bar the act of a piece that is no end or not, and so is its outcome
pub succeeds : {R B : Type 0} (e : EngineState R B) (p : Handed) → IsStepOut e.core p.piece → bars_act e.catalog.ops (full_history e.core) (act_of e.core.plans p.piece) ≡ false
    → outcome_of Done (is_barred e p.piece) ≡ Succeeds
succeeds e p out free = ap (outcome_of Done) (barred_by_act e p.piece out.no_end ∙ free)

pub fails : {R B : Type 0} (e : EngineState R B) (p : Handed) → IsStepOut e.core p.piece → bars_act e.catalog.ops (full_history e.core) (act_of e.core.plans p.piece) ≡ true
    → outcome_of Done (is_barred e p.piece) ≡ Fails
fails e p out barred = ap (outcome_of Done) (barred_by_act e p.piece out.no_end ∙ barred)

module _ {R B : Type 0} (disk : R → Disk) (old mid new : EngineState R B) (p : Handed) (is : IsCore old.core) (out : IsOut old.core p.piece)
    (core_mid : mid.core ≡ old.core) (catalog_mid : mid.catalog ≡ old.catalog) (rack_mid : mid.files.rack ≡ old.files.rack)
    (put : Told (disk mid.files.rack) → EachImage (disk new.files.rack) (disk mid.files.rack).moment (IsSoundForEither mid.catalog (full_history mid.core) (history_with mid.core p.piece))) where
  -- each image is sound for the history before or with the event
  images : Told (disk old.files.rack) → EachImage (disk new.files.rack) (disk old.files.rack).moment (IsSoundForEither old.catalog (full_history old.core) (history_with old.core p.piece))
  images =
      subst (λ r. Told (disk r) → EachImage (disk new.files.rack) (disk r).moment (IsSoundForEither old.catalog (full_history old.core) (history_with old.core p.piece))) rack_mid
      (subst (λ c. Told (disk mid.files.rack) → EachImage (disk new.files.rack) (disk mid.files.rack).moment (IsSoundForEither old.catalog (full_history c) (history_with c p.piece))) core_mid
      (subst (λ c. Told (disk mid.files.rack) → EachImage (disk new.files.rack) (disk mid.files.rack).moment (IsSoundForEither c (full_history mid.core) (history_with mid.core p.piece))) catalog_mid put))

  -- settled, it has taken effect
  pub done : (n : ℕ) → SettlesPiece mid new p (Ok n)
      → (Told (disk new.files.rack) → EachImage (disk new.files.rack) (disk new.files.rack).moment (IsSound new.catalog (full_history new.core)))
      → Finishes disk old new p Succeeds (Effected n)
  done n settles each = effected_finishes disk old mid new p is out.handed out.out core_mid catalog_mid n settles.core settles.catalog settles.settled settles.reply images each

  -- a fault of the rack closes the engine
  pub undone : (e : DiskFailed) → SettlesPiece mid new p (Err e) → Finishes disk old new p Succeeds DiskFault
  undone e settles = failed_finishes disk old mid new p is out.handed out.out core_mid catalog_mid settles.left settles.catalog settles.closed images
