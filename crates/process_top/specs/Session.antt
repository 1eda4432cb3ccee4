-- The command `session`.
use Rattle.std.specs.Prelude.{[], ◌∷◌, List, ℕ, Ok, Err}
use Rattle.process_tree.specs.declared.plan.Plan.{Plan}
use Rattle.schedule_model.specs.declared.history.History.{History}
use Rattle.commute_table.specs.declared.catalog.Catalog.{Catalog}
use Rattle.session_text.specs.declared.line.Line.{Line}
use Rattle.command_refusals.specs.declared.status.Status.{Status}
use Rattle.command_refusals.specs.declared.status.Status.TheVariants.{Done, NoMemory}
use Rattle.command_refusals.specs.Statuses.{IsOneOf}
use Rattle.command_input.specs.Inputs.{Input}
use Rattle.command_input.specs.FilesLeft.{Files}
use Rattle.scenario_run.specs.Completeness.{AreSoundAndIdle}
use Rattle.session_run.specs.Completeness.{HasSession}
use Rattle.session_run.specs.Session.{IsSessionDue as IsSessionFound}
use Rattle.process_top.specs.Replies.{Reply, ended, refused}

-- what the lines print, up to the last or to a fault; or the verdict line of the first process that isn't well-formed; or what is
-- refused
abbrev pub IsSessionDue : Input → Input → Files → Files → Reply → Type 0
IsSessionDue before after files files_after (ended said) = IsSessionFound before after files files_after (Ok said)
IsSessionDue before after files files_after (refused r) = IsSessionFound before after files files_after (Err r)
IsSessionDue before after files files_after reply = ⊥

-- where the input is a scenario and lines with a form, and the files are sound for a history in which no process is active, all
-- lines are answered, or memory is wanting
abbrev pub IsSessionComplete : Input → Files → Status → Type 0
IsSessionComplete input files status =
    (bytes : List ℕ) (c : Catalog) (plans : List Plan) (lines : List Line) (h : History) → HasSession input bytes c plans lines
    → AreSoundAndIdle c h files → IsOneOf status (Done ∷ NoMemory ∷ [])
