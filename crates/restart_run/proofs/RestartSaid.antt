-- What is said of a restart is due.
use Rattle.std.proofs.Common.{◌≡◌, ◌⊎◌, ◌∙◌, ◌++◌, ℕ, Result, Ok, Err, IfErr, IfOk, inl, inr, refl, ap, subst}
use Rattle.process_flow.specs.Causes.{Rose}
use Rattle.process_text.specs.Canonical.{line_of}
use Rattle.schedule_model.specs.declared.history.History.{History}
use Rattle.reduction_trace.specs.Whole.{completed_history}
use Rattle.commute_table.specs.declared.catalog.Catalog.{Catalog}
use Rattle.process_core.specs.Cores.{CoreState, history_of}
use Rattle.history_opening.specs.Laws.{SoundFilesAreOpened}
use Rattle.history_opening.specs.declared.faults.OpenError.{OpenError}
use Rattle.history_opening.specs.declared.faults.OpenError.TheVariants as errors
use Rattle.engine_steps.specs.Engines.{full_history}
use Rattle.engine_steps.specs.declared.engines.Phase.{Phase}
use Rattle.engine_steps.specs.declared.engines.Phase.TheVariants.{Settled}
use Rattle.process_report.specs.Report.{report_text}
use Rattle.session_text.specs.Answers.{exhausted_words}
use Rattle.command_refusals.specs.declared.refusal.Refusal.{Refusal}
use Rattle.command_refusals.specs.declared.refusal.Refusal.TheVariants.{NoMemory}
use Rattle.command_input.specs.declared.said.Said.{Said}
use Rattle.command_input.specs.FilesLeft.{Files}
use Rattle.scenario_run.specs.Opening.{open_refusal}
use Rattle.scenario_run.specs.Reports.{report_in}
use Rattle.engine_calls.specs.GateAnswers.{AskedGate}
use Rattle.process_restart.specs.Completing.{IsHeldUpBy, restart_causes, with_completion}
use Rattle.process_restart.specs.Restarting.{IsCutOffBy, IsNotOpened, IsRestart}
use Rattle.restart_run.specs.Restart.{IsRestartComplete, IsRestartFound, SaysAll, SaysPart}
use Rattle.restart_run.proofs.RestartCauses.{restart_told}

module _ (gate : AskedGate) (c : Catalog) (h : History) (now : CoreState) (before after : Files) (made : IsRestart gate c h now Settled before.disk after.disk) where
  -- the report has the causes of the restart
  report_so : report_in c now ≡ report_text c (full_history now) (restart_causes h)
  report_so = ap (report_text c (full_history now)) (restart_told gate c h now made.completing _ made.kept.events)

  whole : history_of now ≡ completed_history h → full_history now ≡ with_completion h
  whole done = ap (λ ps. record { plans = ps; events = history_of now }) made.completing.run.plans ∙ ap (λ es. record { plans = h.plans; events = es }) done

  no_memory : (r : Refusal) → r ≡ NoMemory → IsRestartFound gate before after (Err r)
  no_memory r is = inr (c, h, now, inl (is, made))

  -- Of a completed history,
  pub all_found : (found : Result Said Refusal) → history_of now ≡ completed_history h → IfOk found (SaysAll c now) → IfErr found (λ r. r ≡ NoMemory) → IsRestartFound gate before after found
  all_found (Ok s) done says none = (c, h, now, made, inl (says.0, done, says.1 ∙ (report_so ∙ ap (λ k. report_text c k (restart_causes h)) (whole done))))
  all_found (Err r) done none is = no_memory r is

  -- or of one that goes no further.
  pub part_found : (process step : ℕ) (found : Result Said Refusal) → IsHeldUpBy now process step → IfOk found (SaysPart c now process step) → IfErr found (λ r. r ≡ NoMemory)
      → IsRestartFound gate before after found
  part_found process step (Ok s) held says none = (
    c,
    h,
    now,
    made,
    inr (
      process,
      step,
      says.0,
      held,
      says.1 ∙ (ap (λ xs. xs ++ line_of (exhausted_words now.plans process step)) report_so
          ∙ ap (λ b. report_text c (full_history now) (restart_causes h) ++ line_of (exhausted_words now.plans process b)) held.step_is),
    ),
  )
  part_found process step (Err r) held none is = no_memory r is

-- A restart that was refused.
module _ (gate : AskedGate) (before after : Files) (why : OpenError) (fault : why ≡ errors.DiskFault → Rose before.faults after.faults) where
  cut_found : (c : Catalog) (h : History) (now : CoreState) (on : Phase) → IsCutOffBy why on → IsRestart gate c h now on before.disk after.disk → IsRestartFound gate before after (Err (open_refusal why))
  cut_found c h now on (inl (memory, settled)) made = inr (c, h, now, inl (ap open_refusal memory, subst (λ p. IsRestart gate c h now p before.disk after.disk) settled made))
  cut_found c h now on (inr (failed, closed)) made =
      inr (c, h, now, inr (ap open_refusal failed, subst (λ p. IsRestart gate c h now p before.disk after.disk) closed made, fault failed))

  pub refused_found : IsNotOpened gate why before.disk after.disk
      ⊎ ((c : Catalog) × (h : History) × (now : CoreState) × (on : Phase) × IsCutOffBy why on × IsRestart gate c h now on before.disk after.disk)
      → IsRestartFound gate before after (Err (open_refusal why))
  refused_found (inl none) = inl (why, refl, record { due = none.due; left = none.left; fault = fault })
  refused_found (inr (c, h, now, on, cut, made)) = cut_found c h now on cut made

-- What is due is complete: sound files are opened.
pub found_is_complete : SoundFilesAreOpened → (gate : AskedGate) (before after : Files) (found : Result Said Refusal) → IsRestartFound gate before after found → IsRestartComplete before after found
found_is_complete opened gate before after (Ok s) (c, h, now, made, inl says) d k told sound quiet = inl says.0
found_is_complete opened gate before after (Ok s) (c, h, now, made, inr says) d k told sound quiet = inr says.2
found_is_complete opened gate before after (Err r) (inl (e, is, none)) d k told sound quiet = by (opened d k before.disk.files e sound (none.due told))
  where
    by : (e ≡ errors.DiskFault) ⊎ (e ≡ errors.NoMemory) → r ≡ NoMemory
    by (inl failed) = absurd (quiet (none.fault failed))
    by (inr memory) = is ∙ ap open_refusal memory
found_is_complete opened gate before after (Err r) (inr (c, h, now, inl cut)) d k told sound quiet = cut.0
found_is_complete opened gate before after (Err r) (inr (c, h, now, inr cut)) d k told sound quiet = absurd (quiet cut.2)
