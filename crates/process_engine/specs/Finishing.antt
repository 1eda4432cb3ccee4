-- How a piece is finished.
use Rattle.std.specs.Prelude.{◌≡◌, ◌⊎◌, ⊤, ℕ, Bool, true, false, length, if◌then◌else◌, Result, OnOk, OnErr, IfOk}
use Rattle.process_disk.specs.Disk.{Disk, FileSet, Told}
use Rattle.process_disk.specs.Images.{EachImage}
use Rattle.process_tree.specs.declared.play.Outcome.{Outcome}
use Rattle.process_tree.specs.declared.play.Outcome.TheVariants.{Done as Succeeds, Refused as Fails}
use Rattle.schedule_model.specs.declared.history.History.{History}
use Rattle.machine_model.specs.declared.kept.Work.TheVariants.{Forward, End}
use Rattle.machine_model.specs.declared.replies.Refusal.TheVariants.{Retry as TryAgain, Alternative, RollBack, Exhausted as UsedUp}
use Rattle.machine_model.specs.Calls.{finish, finished}
use Rattle.machine_model.specs.Moment.{Piece}
use Rattle.machine_model.specs.Progress.{same_work}
use Rattle.machine_model.specs.Replies.{Handed, Finish as Reply, effected, refused, over, dropped}
use Rattle.commute_table.specs.declared.catalog.Catalog.{Catalog}
use Rattle.gate_log.specs.declared.errors.DiskFault.{DiskFault as DiskFailed}
use Rattle.process_core.specs.Answers.{after_call, answer_in}
use Rattle.process_core.specs.Moments.{finish_reply_in}
use Rattle.history_files.specs.Sound.{IsSound, IsSoundForEither}
use Rattle.engine_steps.specs.Engines.{EngineState, full_history}
use Rattle.engine_steps.specs.Pieces.{act_of, bars_act, history_with}
use Rattle.engine_steps.specs.declared.engines.Phase.{Phase}
use Rattle.engine_steps.specs.declared.engines.Phase.TheVariants as phase
use Rattle.process_engine.specs.declared.gates.Answer.{Answer}
use Rattle.process_engine.specs.declared.gates.Answer.TheVariants.{Done, Refused}
use Rattle.process_engine.specs.declared.finishing.Finish.{Finish}
use Rattle.process_engine.specs.declared.finishing.Finish.TheVariants.{Effected, Retry, Failed, Over, Dropped, Exhausted, DiskFault}
use Rattle.process_engine.specs.declared.finishing.Finish.TheVariants.{NoMemory, Closed}

-- the values of the books bar a piece; nothing bars an end
abbrev pub is_barred : {R B : Type 0} → EngineState R B → Piece → Bool
is_barred e p = if same_work p.work End then false else bars_act e.catalog.ops (full_history e.core) (act_of e.core.plans p)

-- a piece succeeds where its work is done and nothing bars it
abbrev pub outcome_of : Answer → Bool → Outcome
outcome_of Done false = Succeeds
outcome_of Done true = Fails
outcome_of Refused barred = Fails

-- The answer is the machine's reply; where a call of the rack failed or no memory was found, the machine would reply an effect.
abbrev pub RepliesAs : Finish → Reply → Type 0
RepliesAs (Effected n) reply = reply ≡ effected n
RepliesAs (Retry k) reply = reply ≡ refused (TryAgain k)
RepliesAs Failed reply = (reply ≡ refused Alternative) ⊎ (reply ≡ refused RollBack)
RepliesAs Over reply = reply ≡ over
RepliesAs (Dropped k) reply = reply ≡ dropped k
RepliesAs Exhausted reply = reply ≡ refused UsedUp
RepliesAs DiskFault reply = (n : ℕ) × (reply ≡ effected n)
RepliesAs (NoMemory p) reply = (n : ℕ) × (reply ≡ effected n)
RepliesAs (Closed n) reply = ⊥

-- The engine has kept what the machine does of a piece with this outcome, and nothing is under way.
pub record IsFinished {R B : Type 0} (old new : EngineState R B) (p : Piece) (outcome : Outcome) : Type 0 where
  pub core : new.core ≡ after_call old.core (finish p.number outcome)
  pub catalog : new.catalog ≡ old.catalog
  pub phase : new.phase ≡ phase.Settled

-- It has kept nothing, and this goes on.
pub record IsLeft {R B : Type 0} (old new : EngineState R B) (on : Phase) : Type 0 where
  pub core : new.core ≡ old.core
  pub catalog : new.catalog ≡ old.catalog
  pub phase : new.phase ≡ on

-- What an answer leaves of the engine.
abbrev pub Leaves : {R B : Type 0} → EngineState R B → EngineState R B → Handed → Finish → Type 0
Leaves old new p (Effected n) = IsFinished old new p.piece Succeeds
Leaves old new p (Retry k) = IsFinished old new p.piece Fails × (new.files.rack ≡ old.files.rack)
Leaves old new p Failed = IsFinished old new p.piece Fails × (new.files.rack ≡ old.files.rack)
Leaves old new p Exhausted = IsFinished old new p.piece Fails × (new.files.rack ≡ old.files.rack)
Leaves old new p Over = new ≡ old
Leaves old new p (Dropped k) = new ≡ old
Leaves old new p DiskFault = IsLeft old new phase.Closed
Leaves old new p (NoMemory q) =
    IsLeft old new phase.Settled × (q ≡ p) × (p.piece.work ≡ Forward) × (new.files.rack ≡ old.files.rack)
Leaves old new p (Closed n) = new ≡ old

-- For which history a crash within the call may leave files: the one before, or where the effect was under way, the one with it
-- too.
abbrev pub MayLeave : Finish → Catalog → History → History → FileSet → Type 0
MayLeave (Effected n) c before after files = IsSoundForEither c before after files
MayLeave DiskFault c before after files = IsSoundForEither c before after files
MayLeave (Retry k) c before after files = IsSound c before files
MayLeave Failed c before after files = IsSound c before files
MayLeave Over c before after files = IsSound c before files
MayLeave (Dropped k) c before after files = IsSound c before files
MayLeave Exhausted c before after files = IsSound c before files
MayLeave (NoMemory p) c before after files = IsSound c before files
MayLeave (Closed n) c before after files = IsSound c before files

-- An effect is acknowledged with its place, the last one of the history, and each image from then on is sound for the history with
-- it.
pub record IsAcknowledged {R B : Type 0} (old new : EngineState R B) (disk : Disk) (p : Piece) (n : ℕ) : Type 0 where
  pub history : full_history new.core ≡ history_with old.core p
  pub place : n ≡ length (history_with old.core p).events
  pub each : Told disk → EachImage disk disk.moment (IsSound old.catalog (history_with old.core p))

abbrev pub Acknowledges : {R B : Type 0} → EngineState R B → EngineState R B → Disk → Piece → Finish → Type 0
Acknowledges old new disk p (Effected n) = IsAcknowledged old new disk p n
Acknowledges old new disk p (Retry k) = ⊤
Acknowledges old new disk p Failed = ⊤
Acknowledges old new disk p Over = ⊤
Acknowledges old new disk p (Dropped k) = ⊤
Acknowledges old new disk p Exhausted = ⊤
Acknowledges old new disk p DiskFault = ⊤
Acknowledges old new disk p (NoMemory q) = ⊤
Acknowledges old new disk p (Closed n) = ⊤

-- What a finish of a piece with this outcome does to an engine that is open and at rest.
pub record Finishes {R B : Type 0} (disk : R → Disk) (old new : EngineState R B) (p : Handed) (outcome : Outcome)
    (result : Finish) : Type 0 where
  pub reply : RepliesAs result (finish_reply_in old.core p.piece.number outcome)
  pub left : Leaves old new p result
  pub any_moment : Told (disk old.files.rack) → EachImage (disk new.files.rack) (disk old.files.rack).moment
      (MayLeave result old.catalog (full_history old.core) (history_with old.core p.piece))
  pub acknowledged : Acknowledges old new (disk new.files.rack) p.piece result

-- What comes of a piece that takes effect by itself: the core has kept what the machine does of a piece that succeeds, with its
-- reply, and nothing is under way; or a call of the rack failed, the engine is closed, and its core is as it was.
pub record SettlesPiece {R B : Type 0} (old new : EngineState R B) (p : Handed) (result : Result ℕ DiskFailed) : Type 0 where
  pub core : OnOk result (new.core ≡ after_call old.core (finish p.piece.number Succeeds))
  pub reply : IfOk result (λ n. (answer_in old.core (finish p.piece.number Succeeds)).reply ≡ finished (effected n))
  pub settled : OnOk result (new.phase ≡ phase.Settled)
  pub left : OnErr result (new.core ≡ old.core)
  pub closed : OnErr result (new.phase ≡ phase.Closed)
  pub catalog : new.catalog ≡ old.catalog
