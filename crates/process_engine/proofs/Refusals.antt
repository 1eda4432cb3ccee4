-- What a refusal makes of an engine.
use Rattle.std.proofs.Common.{◌≡◌, ◌∙◌, ℕ, Bool, true, false, ap, sym, subst}
use Rattle.std.proofs.lemmas.Bool.{false≢true}
use Rattle.process_disk.specs.Disk.{Disk, Told}
use Rattle.process_disk.specs.Images.{EachImage}
use Rattle.process_tree.specs.declared.play.Outcome.TheVariants.{Refused as Fails}
use Rattle.schedule_model.specs.declared.history.History.{History}
use Rattle.commute_table.specs.declared.catalog.Catalog.{Catalog}
use Rattle.machine_model.specs.Calls.{Reply, finish, started, not_started, admitted, next_is, finished, aborted, all_complete}
use Rattle.machine_model.specs.Replies.{Finish as Answered, effected, refused, over, dropped, no_piece, no_refusal}
use Rattle.machine_model.specs.declared.replies.Refusal.{Refusal}
use Rattle.machine_model.specs.Replies.{Handed}
use Rattle.process_core.specs.Answers.{after_call, answer_in}
use Rattle.history_files.specs.Sound.{IsSound}
use Rattle.engine_steps.specs.Engines.{EngineState, full_history, with_core}
use Rattle.engine_steps.specs.Pieces.{history_with}
use Rattle.engine_steps.specs.declared.engines.Phase.TheVariants as phase
use Rattle.process_engine.specs.Finishing.{Acknowledges, Finishes, IsFinished, Leaves, MayLeave, RepliesAs}
use Rattle.process_engine.specs.declared.finishing.Finish.{Finish}
use Rattle.process_engine.specs.declared.finishing.Finish.TheVariants.{Effected, Retry, Failed, Over, Dropped, Exhausted, DiskFault, NoMemory, Closed}

-- what is finished is told by the reply
abbrev answer_told : Reply → Answered
answer_told (started i) = no_piece
answer_told (not_started why) = no_piece
answer_told (admitted a) = no_piece
answer_told (next_is a) = no_piece
answer_told (finished f) = f
answer_told (aborted a) = no_piece
answer_told all_complete = no_piece

pub same_finish : (a b : Answered) → finished a ≡ finished b → a ≡ b
same_finish a b is = ap answer_told is

abbrev pub is_refused : Answered → Bool
is_refused (effected n) = false
is_refused (refused r) = true
is_refused over = false
is_refused (dropped k) = false
is_refused no_piece = false
is_refused no_refusal = false

-- What an answer to a refusal leaves: the refusal is kept, no file is touched, and nothing is acknowledged.
module _ {R B : Type 0} (old new : EngineState R B) (p : Handed) (r : Refusal) where
  pub refusal_leaves : (a : Finish) → RepliesAs a (refused r) → IsFinished old new p.piece Fails → new.files.rack ≡ old.files.rack → Leaves old new p a
  refusal_leaves (Effected n) is kept same = absurd (false≢true (sym (ap is_refused is)))
  refusal_leaves (Retry k) is kept same = (kept, same)
  refusal_leaves Failed is kept same = (kept, same)
  refusal_leaves Over is kept same = absurd (false≢true (sym (ap is_refused is)))
  refusal_leaves (Dropped k) is kept same = absurd (false≢true (sym (ap is_refused is)))
  refusal_leaves Exhausted is kept same = (kept, same)
  refusal_leaves DiskFault is kept same = absurd (false≢true (sym (ap is_refused is.1)))
  refusal_leaves (NoMemory q) is kept same = absurd (false≢true (sym (ap is_refused is.1)))
  refusal_leaves (Closed n) is kept same = absurd is

  pub refusal_images : (a : Finish) → RepliesAs a (refused r) → (c : Catalog) (before after : History) (disk : Disk) (t : ℕ) → EachImage disk t (IsSound c before) → EachImage disk t (MayLeave a c before after)
  refusal_images (Effected n) is c before after disk t each = absurd (false≢true (sym (ap is_refused is)))
  refusal_images (Retry k) is c before after disk t each = each
  refusal_images Failed is c before after disk t each = each
  refusal_images Over is c before after disk t each = each
  refusal_images (Dropped k) is c before after disk t each = each
  refusal_images Exhausted is c before after disk t each = each
  refusal_images DiskFault is c before after disk t each = absurd (false≢true (sym (ap is_refused is.1)))
  refusal_images (NoMemory q) is c before after disk t each = each
  refusal_images (Closed n) is c before after disk t each = each

  pub refusal_acknowledges : (a : Finish) → RepliesAs a (refused r) → (disk : Disk) → Acknowledges old new disk p.piece a
  refusal_acknowledges (Effected n) is disk = absurd (false≢true (sym (ap is_refused is)))
  refusal_acknowledges (Retry k) is disk = tt
  refusal_acknowledges Failed is disk = tt
  refusal_acknowledges Over is disk = tt
  refusal_acknowledges (Dropped k) is disk = tt
  refusal_acknowledges Exhausted is disk = tt
  refusal_acknowledges DiskFault is disk = tt
  refusal_acknowledges (NoMemory q) is disk = tt
  refusal_acknowledges (Closed n) is disk = tt

-- So the refusal of a piece that is out finishes it.
module _ {R B : Type 0} (disk : R → Disk) (old new : EngineState R B) (p : Handed) (r : Refusal) (settled : old.phase ≡ phase.Settled)
    (is : new ≡ with_core old (after_call old.core (finish p.piece.number Fails))) (reply : finished (refused r) ≡ (answer_in old.core (finish p.piece.number Fails)).reply)
    (each : Told (disk old.files.rack) → EachImage (disk old.files.rack) (disk old.files.rack).moment (IsSound old.catalog (full_history old.core))) where
  untouched : new.files.rack ≡ old.files.rack
  untouched = ap (λ (e : EngineState R B). e.files.rack) is

  kept : IsFinished old new p.piece Fails
  kept = record {
    core = ap (λ (e : EngineState R B). e.core) is;
    catalog = ap (λ (e : EngineState R B). e.catalog) is;
    phase = ap (λ (e : EngineState R B). e.phase) is ∙ settled;
  }

  pub refused_finishes : (a : Finish) → RepliesAs a (refused r) → Finishes disk old new p Fails a
  refused_finishes a replies = record {
    reply = subst (RepliesAs a) (same_finish _ _ reply) replies;
    left = refusal_leaves old new p r a replies kept untouched;
    any_moment = λ told. refusal_images old new p r a replies old.catalog (full_history old.core) (history_with old.core p.piece) (disk new.files.rack) (disk old.files.rack).moment
        (subst (λ x. EachImage (disk x) (disk old.files.rack).moment (IsSound old.catalog (full_history old.core))) (sym untouched) (each told));
    acknowledged = refusal_acknowledges old new p r a replies (disk new.files.rack);
  }
