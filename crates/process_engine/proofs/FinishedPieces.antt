-- What an effect makes of an engine, and a fault of the rack on the way to it.
use Rattle.std.proofs.Common.{◌≡◌, ◌∙◌, ◌+◌, ◌∷◌, [], ℕ, false, length, length-append, ap, sym, subst, if◌then◌else◌}
use Rattle.process_disk.specs.Disk.{Disk, Told}
use Rattle.process_disk.specs.Images.{EachImage}
use Rattle.process_tree.specs.declared.play.Outcome.TheVariants.{Done as Succeeds}
use Rattle.machine_model.specs.declared.kept.Work.TheVariants.{End}
use Rattle.machine_model.specs.declared.replies.PieceState.TheVariants.{Out}
use Rattle.machine_model.specs.Advance.{event_of}
use Rattle.machine_model.specs.Calls.{finish, finished}
use Rattle.machine_model.specs.Moment.{Piece}
use Rattle.machine_model.specs.Pieces.{state_of}
use Rattle.machine_model.specs.Progress.{same_work}
use Rattle.machine_model.specs.Replies.{Finish as Answered, Handed, effected, refused, over, dropped, no_piece, no_refusal, finish_reply}
use Rattle.process_core.specs.Answers.{after_call, answer_in}
use Rattle.process_core.specs.Cores.{IsCore, IsHandedBy, courses_in, history_of, moment_of, relation}
use Rattle.process_core.proofs.CoreEffects.{reply_is}
use Rattle.history_files.specs.Sound.{IsSound, IsSoundForEither}
use Rattle.engine_steps.specs.Engines.{EngineState, full_history}
use Rattle.process_engine.specs.Finishing.{Finishes, is_barred}
use Rattle.engine_steps.specs.Pieces.{act_of, bars_act, history_with}
use Rattle.engine_steps.specs.declared.engines.Phase.TheVariants as phase
use Rattle.process_engine.specs.declared.finishing.Finish.TheVariants.{Effected, DiskFault}
use Rattle.engine_steps.proofs.NextHistory.{history_is}
use Rattle.process_engine.proofs.Refusals.{same_finish}

-- what bars a piece that is no end is what bars its act
pub barred_by_act : {R B : Type 0} (e : EngineState R B) (p : Piece) → same_work p.work End ≡ false → is_barred e p ≡ bars_act e.catalog.ops (full_history e.core) (act_of e.core.plans p)
barred_by_act e p no_end = ap (λ b. if b then false else bars_act e.catalog.ops (full_history e.core) (act_of e.core.plans p)) no_end

abbrev place_told : Answered → ℕ
place_told (effected n) = n
place_told (refused r) = 0
place_told over = 0
place_told (dropped k) = 0
place_told no_piece = 0
place_told no_refusal = 0

module _ {R B : Type 0} (disk : R → Disk) (old mid new : EngineState R B) (p : Handed) (is : IsCore old.core) (handed : IsHandedBy old.core p.piece)
    (out : state_of (moment_of old.core) p.piece.number ≡ Out) (core_mid : mid.core ≡ old.core) (catalog_mid : mid.catalog ≡ old.catalog) where
  machine_reply : finish_reply (relation old.core) (courses_in old.core) (moment_of old.core) p.piece.number Succeeds ≡ effected (length (history_of old.core) + 1)
  machine_reply = reply_is old.core p.piece handed out

  pub failed_finishes : new.core ≡ mid.core → new.catalog ≡ mid.catalog → new.phase ≡ phase.Closed
      → (Told (disk old.files.rack) → EachImage (disk new.files.rack) (disk old.files.rack).moment (IsSoundForEither old.catalog (full_history old.core) (history_with old.core p.piece)))
      → Finishes disk old new p Succeeds DiskFault
  failed_finishes core catalog closed images = record {
    reply = (length (history_of old.core) + 1, machine_reply);
    left = record { core = core ∙ core_mid; catalog = catalog ∙ catalog_mid; phase = closed };
    any_moment = images;
    acknowledged = tt;
  }

  pub effected_finishes : (n : ℕ) → new.core ≡ after_call mid.core (finish p.piece.number Succeeds) → new.catalog ≡ mid.catalog → new.phase ≡ phase.Settled
      → (answer_in mid.core (finish p.piece.number Succeeds)).reply ≡ finished (effected n)
      → (Told (disk old.files.rack) → EachImage (disk new.files.rack) (disk old.files.rack).moment (IsSoundForEither old.catalog (full_history old.core) (history_with old.core p.piece)))
      → (Told (disk new.files.rack) → EachImage (disk new.files.rack) (disk new.files.rack).moment (IsSound new.catalog (full_history new.core)))
      → Finishes disk old new p Succeeds (Effected n)
  effected_finishes n core catalog settled reply images each =
      let replied = same_finish _ (effected n) (subst (λ c. (answer_in c (finish p.piece.number Succeeds)).reply ≡ finished (effected n)) core_mid reply) in
      let kept = core ∙ ap (λ c. after_call c (finish p.piece.number Succeeds)) core_mid in
      let history = ap full_history kept ∙ history_is old.core is p.piece handed out in
      let same = catalog ∙ catalog_mid in
      record {
        reply = replied;
        left = record { core = kept; catalog = same; phase = settled };
        any_moment = images;
        acknowledged = record {
          history = history;
          place = sym (ap place_told (sym machine_reply ∙ replied)) ∙ sym (length-append (full_history old.core).events (event_of (courses_in old.core) p.piece ∷ []));
          each = λ told. subst (λ h. EachImage (disk new.files.rack) (disk new.files.rack).moment (IsSound old.catalog h)) history
              (subst (λ c. EachImage (disk new.files.rack) (disk new.files.rack).moment (IsSound c (full_history new.core))) same (each told));
        };
      }
