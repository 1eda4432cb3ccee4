-- When `session` answers all its lines.
use Rattle.std.specs.Prelude.{◌≡◌, ◌≤◌, ◌⊎◌, ℕ, List, length, Some, Result, Ok, Err}
use Rattle.process_tree.specs.declared.plan.Plan.{Plan}
use Rattle.schedule_model.specs.declared.history.History.{History}
use Rattle.commute_table.specs.declared.catalog.Catalog.{Catalog}
use Rattle.command_refusals.specs.declared.refusal.Refusal.{Refusal}
use Rattle.command_refusals.specs.declared.refusal.Refusal.TheVariants as refusals
use Rattle.command_refusals.specs.declared.status.Status.TheVariants.{Done, NoMemory}
use Rattle.command_input.specs.declared.said.Said.{Said}
use Rattle.command_input.specs.FilesLeft.{Files}
use Rattle.command_input.specs.Inputs.{Input, most_input}
use Rattle.command_input.specs.Scenarios.{IsBound}
use Rattle.scenario_run.specs.Completeness.{AreSoundAndIdle, NothingFailed}
use Rattle.session_text.specs.declared.line.Line.{Line}
use Rattle.session_text.specs.Sessions.{said, scenario_of}

-- The source has a text within the limit: a scenario, whose processes are well-formed and have known operations, and lines with a
-- form.
pub record HasSession (before : Input) (bytes : List ℕ) (c : Catalog) (plans : List Plan) (lines : List Line) : Type 0 where
  pub told : before.left ≡ Some bytes
  pub within : length bytes ≤ most_input
  pub bound : IsBound (scenario_of bytes) c plans
  pub asked : said bytes ≡ Ok lines

-- all lines are answered, or memory was wanting
abbrev pub AreAllAnswered : Result Said Refusal → Type 0
AreAllAnswered (Ok s) = (s.status ≡ Done) ⊎ (s.status ≡ NoMemory)
AreAllAnswered (Err r) = r ≡ refusals.NoMemory

-- Where the source has such a text, the files are at rest and nothing failed, all lines are answered; or memory was wanting.
abbrev pub IsSessionComplete : Input → Input → Files → Files → Result Said Refusal → Type 0
IsSessionComplete before after files files_after found =
    (bytes : List ℕ) (c : Catalog) (plans : List Plan) (lines : List Line) (h : History) → HasSession before bytes c plans lines
    → AreSoundAndIdle c h files → NothingFailed before after files files_after
    → AreAllAnswered found
