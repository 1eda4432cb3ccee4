-- The command `restart`.
use Rattle.std.specs.Prelude.{[], ◌∷◌, Ok, Err}
use Rattle.process_disk.specs.Disk.{Told}
use Rattle.schedule_model.specs.declared.history.History.{History}
use Rattle.commute_table.specs.declared.catalog.Catalog.{Catalog}
use Rattle.history_files.specs.Sound.{IsSound}
use Rattle.engine_calls.specs.GateAnswers.{AskedGate}
use Rattle.command_refusals.specs.declared.status.Status.{Status}
use Rattle.command_refusals.specs.declared.status.Status.TheVariants.{Done, Exhausted, NoMemory}
use Rattle.command_refusals.specs.Statuses.{IsOneOf}
use Rattle.command_input.specs.FilesLeft.{Files}
use Rattle.restart_run.specs.Restart.{IsRestartFound}
use Rattle.process_top.specs.Replies.{Reply, ended, refused}

-- the report of the completed history, or of the history so far where one is exhausted; or what is refused
abbrev pub IsRestartDue : AskedGate → Files → Files → Reply → Type 0
IsRestartDue gate files files_after (ended said) = IsRestartFound gate files files_after (Ok said)
IsRestartDue gate files files_after (refused r) = IsRestartFound gate files files_after (Err r)
IsRestartDue gate files files_after reply = ⊥

-- sound files are completed, or a process is exhausted, or memory is wanting
abbrev pub IsRestartComplete : Files → Status → Type 0
IsRestartComplete files status =
    (c : Catalog) (h : History) → Told files.disk → IsSound c h files.disk.files → IsOneOf status (Done ∷ Exhausted ∷ NoMemory ∷ [])
