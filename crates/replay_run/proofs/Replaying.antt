-- What a replay finds is due.
use Rattle.std.proofs.Common.{◌≡◌, [], Result, Ok, Err, IfOk, IfErr, inr}
use Rattle.schedule_model.specs.declared.history.History.{History}
use Rattle.schedule_model.specs.Histories.{active}
use Rattle.commute_table.specs.declared.catalog.Catalog.{Catalog}
use Rattle.command_refusals.specs.declared.refusal.Refusal.{Refusal}
use Rattle.command_input.specs.declared.said.Said.{Said}
use Rattle.command_input.specs.FilesLeft.{Files}
use Rattle.journal_input.specs.Opening.{IsOpened}
use Rattle.replay_run.specs.Replay.{IsReplayDue, IsReplayed}
use Rattle.replay_run.specs.Soundness.{IsUnsound}

-- where a history was read in which no process is active
pub due_of_history : (c : Catalog) (h : History) (before after : Files) (found : Result Said Refusal) → IsOpened c h before after → active h.events ≡ []
    → IfOk found (IsReplayed c h) → IfErr found (IsUnsound c) → IsReplayDue before after found
due_of_history c h before after (Ok said) read idle is refused = (c, h, read, is)
due_of_history c h before after (Err r) read idle is refused = inr ((c, h), read, inr (tt, idle, refused))
