-- When `bulk` prints its line.
use Rattle.std.specs.Prelude.{◌≡◌, ℕ, List, [], None, Result}
use Rattle.process_flow.specs.Causes.{Rose}
use Rattle.process_disk.specs.Disk.{Told}
use Rattle.process_tree.specs.declared.plan.Plan.{Plan}
use Rattle.commute_table.specs.declared.catalog.Catalog.{Catalog}
use Rattle.process_core.specs.Cores.{opened_on}
use Rattle.history_files.specs.Creating.{first_used}
use Rattle.process_engine.specs.Fitting.{limit_passed}
use Rattle.command_refusals.specs.declared.refusal.Refusal.{Refusal}
use Rattle.command_input.specs.declared.said.Said.{Said}
use Rattle.command_input.specs.FilesLeft.{Files}
use Rattle.command_input.specs.Scenarios.{IsBound}
use Rattle.scenario_run.specs.Completeness.{IsReportThere}

-- A text is that of a scenario with this catalog and these processes, which are well-formed, and they fit within the limits.
pub record IsScenarioThatFits (text : List ℕ) (c : Catalog) (plans : List Plan) : Type 0 where
  pub bound : IsBound text c plans
  pub fit : (ps : List Plan) → IsBound text c ps → limit_passed (opened_on c.conflicts [] []) ps ≡ None

-- The files are told and empty.
pub record AreEmptyFiles (files : Files) : Type 0 where
  pub told : Told files.disk
  pub empty : first_used files.disk.files ≡ None

-- Where the text is such a scenario, the files are empty and the rack failed no call, the line is there: all processes have ended,
-- or one is stuck; or memory was wanting.
abbrev pub IsBulkComplete : List ℕ → Files → Files → Result Said Refusal → Type 0
IsBulkComplete text before after found =
    (c : Catalog) (plans : List Plan) → IsScenarioThatFits text c plans → AreEmptyFiles before → ¬ Rose before.faults after.faults
    → IsReportThere found
