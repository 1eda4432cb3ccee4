use Rattle.std.proofs.Common.{◌≡◌, ◌∙◌, ap}
use Rattle.engine_steps.specs.Engines.{full_history}
use Rattle.process_report.specs.Report.{report_text}
use Rattle.scenario_run.specs.Reports.{causes_in, report_in}
use Rattle.scenario_run.proofs.Causes.{so_ok}
use Rattle.scenario_run.proofs.reporting.report_now.Goals as goal

pub returns : goal.returns
returns g c =
    let e = c.args.engine.now in
    let read = c.deref.ensures.value in
    let told = c.in_ok-causes.ensures in
    let causes : c.deref.result.now ≡ causes_in e.core = cc in
    let same : report_text c.catalog.result.now c.history.result.now c.deref.result.now ≡ report_in e.catalog e.core
    = ap (λ d. report_text d c.history.result.now c.deref.result.now) c.catalog.ensures
    ∙ (ap (λ h. report_text e.catalog h c.deref.result.now) c.history.ensures ∙ ap (report_text e.catalog (full_history e.core)) causes) in
    so_ok c.report.result (λ text. text.items ≡ report_text c.catalog.result.now c.history.result.now c.deref.result.now) (λ text. text.items ≡ report_in e.catalog e.core) (λ text is. is ∙ same) c.report.ensures
