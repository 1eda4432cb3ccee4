-- The command `restart`: files are opened on their history, and whoever is active in it is completed.
use Rattle.std.specs.Prelude.{◌≡◌, ◌⊎◌, ◌++◌, ℕ, Result, Ok, Err}
use Rattle.process_flow.specs.Causes.{Rose}
use Rattle.process_disk.specs.Disk.{Told}
use Rattle.schedule_model.specs.declared.history.History.{History}
use Rattle.reduction_trace.specs.Whole.{completed_history}
use Rattle.commute_table.specs.declared.catalog.Catalog.{Catalog}
use Rattle.process_core.specs.Cores.{CoreState, history_of}
use Rattle.history_files.specs.Sound.{IsSound}
use Rattle.engine_steps.specs.Engines.{full_history}
use Rattle.engine_steps.specs.declared.engines.Phase.TheVariants.{Settled, Closed}
use Rattle.process_report.specs.Report.{report_text}
use Rattle.process_text.specs.Canonical.{line_of}
use Rattle.session_text.specs.Answers.{exhausted_words}
use Rattle.command_refusals.specs.declared.refusal.Refusal.{Refusal}
use Rattle.command_refusals.specs.declared.refusal.Refusal.TheVariants.{DiskFault, NoMemory}
use Rattle.command_refusals.specs.declared.status.Status.TheVariants as statuses
use Rattle.command_refusals.specs.Order.{Tests, last_test, IsFirstRefusal}
use Rattle.command_input.specs.declared.said.Said.{Said}
use Rattle.command_input.specs.FilesLeft.{Files}
use Rattle.scenario_run.specs.Completeness.{IsReportThere}
use Rattle.scenario_run.specs.Opening.{files_test}
use Rattle.scenario_run.specs.Reports.{exhausted_line, report_in}
use Rattle.engine_calls.specs.GateAnswers.{AskedGate}
use Rattle.process_restart.specs.Completing.{IsHeldUpBy, restart_causes, with_completion}
use Rattle.process_restart.specs.Restarting.{IsRestart}

-- What is said of a completed history: its report, with the causes since the opening.
abbrev pub SaysAll : Catalog → CoreState → Said → Type 0
SaysAll c now said = (said.status ≡ statuses.Done) × (said.text.items ≡ report_in c now)

-- What is said where this process has no try left at this step: the report so far, and a line that says so.
abbrev pub SaysPart : Catalog → CoreState → ℕ → ℕ → Said → Type 0
SaysPart c now process step said =
    (said.status ≡ statuses.Exhausted) × (said.text.items ≡ report_in c now ++ line_of (exhausted_words now.plans process step))

-- All are completed, and the report of the completed history is printed; or the process whose turn it is has no try left, and
-- behind the report of the history so far stands a line that says so.
abbrev pub SaysRestart : Catalog → History → CoreState → Said → Type 0
SaysRestart c h now said =
    ((said.status ≡ statuses.Done) × (history_of now ≡ completed_history h)
    × (said.text.items ≡ report_text c (with_completion h) (restart_causes h)))
    ⊎ ((process step : ℕ) × (said.status ≡ statuses.Exhausted) × IsHeldUpBy now process step
    × (said.text.items ≡ report_text c (full_history now) (restart_causes h) ++ exhausted_line now process))

-- Nothing is said of a restart that was cut off: a call of the rack failed, or memory was wanting.
abbrev pub IsRestartCutOff : AskedGate → Files → Files → Refusal → Type 0
IsRestartCutOff gate before after r =
    (c : Catalog) × (h : History) × (now : CoreState)
    × (((r ≡ NoMemory) × IsRestart gate c h now Settled before.disk after.disk)
    ⊎ ((r ≡ DiskFault) × IsRestart gate c h now Closed before.disk after.disk × Rose before.faults after.faults))

-- The order of the refusals of `restart`: the files alone.
abbrev pub restart_tests : Files → Files → Tests Refusal (Catalog × History)
restart_tests before after = last_test (files_test before after)

-- What there is to say of the files: what a restart on them comes to; or what is refused of them first; or it was cut off.
abbrev pub IsRestartFound : AskedGate → Files → Files → Result Said Refusal → Type 0
IsRestartFound gate before after (Ok said) = (c : Catalog) × (h : History) × (now : CoreState)
    × IsRestart gate c h now Settled before.disk after.disk × SaysRestart c h now said
IsRestartFound gate before after (Err r) = IsFirstRefusal (restart_tests before after) r ⊎ IsRestartCutOff gate before after r

-- Where the files are sound and no call of the rack failed, the report is there, of the completed history or of how far it went; or
-- memory was wanting.
abbrev pub IsRestartComplete : Files → Files → Result Said Refusal → Type 0
IsRestartComplete before after found =
    (c : Catalog) (h : History) → Told before.disk → IsSound c h before.disk.files → ¬ Rose before.faults after.faults
    → IsReportThere found
