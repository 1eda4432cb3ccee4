-- What a command has to say.
use Rattle.std.specs.Prelude.{◌≡◌, true, false, Option, Some, None, Result, Ok, Err, ⊤}
use Rattle.process_flow.specs.Causes.{Rose}
use Rattle.command_refusals.specs.declared.status.Status.{Status}
use Rattle.command_refusals.specs.declared.refusal.Refusal.{Refusal}
use Rattle.program_words.specs.declared.reading.Command.{Command}
use Rattle.program_words.specs.declared.reading.Command.TheVariants.{Run, Session, Serve, Restart, Replay, Audit, Bulk}
use Rattle.command_input.specs.declared.said.Said.{Said}
use Rattle.command_input.specs.Inputs.{Input}
use Rattle.command_input.specs.FilesLeft.{Files}
use Rattle.scenario_run.specs.Completeness.{IsRunComplete, NothingFailed}
use Rattle.session_run.specs.Completeness.{IsSessionComplete}
use Rattle.restart_run.specs.Restart.{IsRestartComplete}
use Rattle.replay_run.specs.Replay.{found_status, IsReplayComplete}
use Rattle.scenario_gen.specs.Generated.{generated as scenario}
use Rattle.bulk_run.specs.Completeness.{IsBulkComplete}
use Rattle.serve_run.specs.declared.command.Ending.{Ending}
use Rattle.serve_run.specs.declared.command.Ending.TheVariants as endings
use Rattle.serve_run.specs.Dialogue.{Dialogue, IsDialogueTold}
use Rattle.serve_run.specs.Serve.{IsServeComplete, OnEnding}
use Rattle.process_top.specs.Audit.{IsAuditComplete, IsHistoryAuditComplete}
use Rattle.process_top.specs.Replies.{Reply, refused, served, is_said, status_of, text_of}
use Rattle.process_top.specs.Told.{Output, IsTold, IsRefusalTold}

-- a reply of which this holds is said: its text and its status where it is said at once, or else the refusal
abbrev pub Says : (Reply → Type 0) → Result Said Refusal → Type 0
Says IsDue (Ok said) = (reply : Reply) × (is_said reply ≡ true) × IsDue reply × (said.text.items ≡ text_of reply)
    × (said.status ≡ status_of reply)
Says IsDue (Err r) = IsDue (refused r)

-- A call ended with a reply of which this holds: a dialogue was held and told, at the status that the call ended with; or nothing
-- was told yet, and the reply is to be.
abbrev pub EndsBy : (Reply → Type 0) → Output → Output → Ending → Type 0
EndsBy IsDue out out_after (endings.Told at) =
    (d : Dialogue) × (status : Status) × IsDue (served d status) × IsDialogueTold d status out out_after at
EndsBy IsDue out out_after (endings.Due found) = Says IsDue found × (out_after ≡ out)

-- what is refused where a call ends so, if something is: of a dialogue that was held nothing is
abbrev pub refused_at : Ending → Option Refusal
refused_at (endings.Told at) = None
refused_at (endings.Due (Ok said)) = None
refused_at (endings.Due (Err r)) = Some r

-- it was told
abbrev pub IsResultTold : Result Said Refusal → Output → Output → Status → Type 0
IsResultTold (Ok said) before after ended = IsTold said.status said.text.items before after ended
IsResultTold (Err r) before after ended = IsRefusalTold r before after ended

-- what is promised of the work of a command that looks at more than its input alone, or at a log, where nothing fails
abbrev pub HasWorked : Option Command → Input → Input → Files → Files → Output → Output → Ending → Type 0
HasWorked (Some (Run workers)) before after files files_after out out_after ending =
    OnEnding (λ at. ⊤) (IsRunComplete before after files files_after) ending
HasWorked (Some Session) before after files files_after out out_after ending =
    OnEnding (λ at. ⊤) (IsSessionComplete before after files files_after) ending
HasWorked (Some Serve) before after files files_after out out_after ending =
    IsServeComplete before after files files_after out out_after ending
HasWorked (Some Restart) before after files files_after out out_after ending =
    OnEnding (λ at. ⊤) (IsRestartComplete files files_after) ending
HasWorked (Some Replay) before after files files_after out out_after ending =
    OnEnding (λ at. ⊤) (λ found. ¬ Rose files.faults files_after.faults → IsReplayComplete files.disk (found_status found)) ending
HasWorked (Some (Audit false)) before after files files_after out out_after ending =
    OnEnding (λ at. ⊤) (λ found. ¬ Rose before.faults after.faults → IsAuditComplete before (found_status found)) ending
HasWorked (Some (Audit true)) before after files files_after out out_after ending =
    OnEnding (λ at. ⊤)
    (λ found. NothingFailed before after files files_after → IsHistoryAuditComplete before files (found_status found)) ending
HasWorked (Some (Bulk number count)) before after files files_after out out_after ending =
    OnEnding (λ at. ⊤) (IsBulkComplete (scenario number count) files files_after) ending
HasWorked o before after files files_after out out_after ending = ⊤
