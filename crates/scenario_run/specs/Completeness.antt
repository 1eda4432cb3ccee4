-- When `run` prints its report.
use Rattle.std.specs.Prelude.{◌≡◌, ◌⊎◌, ◌≤◌, ℕ, List, [], length, Some, None, Result, Ok, Err}
use Rattle.process_flow.specs.Causes.{Rose}
use Rattle.process_disk.specs.Disk.{Told}
use Rattle.process_tree.specs.declared.plan.Plan.{Plan}
use Rattle.schedule_model.specs.declared.history.History.{History}
use Rattle.schedule_model.specs.Histories.{active}
use Rattle.commute_table.specs.declared.catalog.Catalog.{Catalog}
use Rattle.process_core.specs.Cores.{opened_on}
use Rattle.history_files.specs.Sound.{IsSound}
use Rattle.process_engine.specs.Fitting.{limit_passed}
use Rattle.command_refusals.specs.declared.refusal.Refusal.{Refusal}
use Rattle.command_refusals.specs.declared.refusal.Refusal.TheVariants.{NoMemory}
use Rattle.command_refusals.specs.declared.status.Status.TheVariants.{Done, Exhausted}
use Rattle.command_input.specs.declared.said.Said.{Said}
use Rattle.command_input.specs.FilesLeft.{Files}
use Rattle.command_input.specs.Inputs.{Input, most_input}
use Rattle.command_input.specs.Scenarios.{IsBound}

-- the report of a run to its end is there, or memory was wanting
abbrev pub IsReportThere : Result Said Refusal → Type 0
IsReportThere (Ok said) = (said.status ≡ Done) ⊎ (said.status ≡ Exhausted)
IsReportThere (Err r) = r ≡ NoMemory

-- Neither the source nor the rack failed a call.
pub record NothingFailed (before after : Input) (files files_after : Files) : Type 0 where
  pub source : ¬ Rose before.faults after.faults
  pub rack : ¬ Rose files.faults files_after.faults

-- The source has the text of a scenario within the limit, whose processes are well-formed and have known operations.
pub record HasScenario (before : Input) (bytes : List ℕ) (c : Catalog) (plans : List Plan) : Type 0 where
  pub told : before.left ≡ Some bytes
  pub within : length bytes ≤ most_input
  pub bound : IsBound bytes c plans

-- The files are sound for a history of this catalog in which no process is active.
pub record AreSoundAndIdle (c : Catalog) (h : History) (files : Files) : Type 0 where
  pub told : Told files.disk
  pub sound : IsSound c h files.disk.files
  pub idle : active h.events ≡ []

-- The files are sound and idle, and the processes of the scenario fit beside those that started.
pub record HasRoomFor (bytes : List ℕ) (c : Catalog) (h : History) (files : Files) : Type 0 where
  pub rest : AreSoundAndIdle c h files
  pub fit : (plans : List Plan) → IsBound bytes c plans → limit_passed (opened_on c.conflicts h.plans h.events) plans ≡ None

-- Where the source has such a scenario, the files have room for it and nothing failed, the report is there: all processes have
-- ended, or one is stuck; or memory was wanting.
abbrev pub IsRunComplete : Input → Input → Files → Files → Result Said Refusal → Type 0
IsRunComplete before after files files_after found =
    (bytes : List ℕ) (c : Catalog) (plans : List Plan) (h : History) → HasScenario before bytes c plans → HasRoomFor bytes c h files
    → NothingFailed before after files files_after
    → IsReportThere found
