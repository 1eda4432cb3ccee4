use Rattle.std.proofs.Common.{◌≡◌, ◌∙◌, Err, IfErr, ap, rules, subst, sym}
use Rattle.process_tree.specs.declared.plan.Plan.{Plan}
use Rattle.process_tree.proofs.Every.{Each-weaker}
use Rattle.schedule_model.specs.Laws.{IsGoodPlan}
use Rattle.engine_steps.specs.Beginning.{IsPlanFor}
use Rattle.trace_verify.specs.Lines.{parts}
use Rattle.command_input.specs.Inputs.{input}
use Rattle.scenario_run.proofs.ScenarioPlans.{bound_start}
use Rattle.session_text.specs.Sessions.{said, said_from, scenario_of}
use Rattle.session_run.specs.Session.{IsNoSessionRead}
use Rattle.session_run.proofs.BadLines.{bad_line, not_bound}
use Rattle.session_run.proofs.command.script_of.Goals as goal

pub returns-in_err-catalog-clause-refused : goal.returns-in_err-catalog-clause-refused
returns-in_err-catalog-clause-refused g c =
    let before = input g.S.Source c.args.source.now in
    let after = input g.S.Source c.text_of.new.source in
    let failed : c.from_residual-in_err-catalog.result ≡ Err c.in_err-catalog.field-0.0 = search rules in
    subst (λ r. IfErr r (IsNoSessionRead before after)) (sym failed)
    (not_bound before after c.in_ok-text.text.items c.divide-divided.result.scenario.now c.in_err-catalog.field-0.0 c.in_ok-text.ensures.text
    (c.divide-divided.ensures.scenario ∙ ap scenario_of c.deref.ensures.value) c.in_err-catalog.ensures.refused)

pub returns-in-Ok-clause-plans : goal.returns-in-Ok-clause-plans
returns-in-Ok-clause-plans g c =
    let cat = c.in_ok-catalog.field-0.catalog in
    let plans = c.in_ok-catalog.field-0.plans.items in
    Each-weaker (λ (p : Plan). IsPlanFor cat p × IsGoodPlan p) (IsPlanFor cat) (λ p both. both.0) plans (bound_start c.divide-divided.result.scenario.now cat plans c.in_ok-catalog.ensures.bound)

pub returns-clause-refused : goal.returns-clause-refused
returns-clause-refused g c =
    bad_line (input g.S.Source c.args.source.now) (input g.S.Source c.text_of.new.source) c.in_ok-text.text.items c.divide-divided.result.scenario.now
    c.in_ok-catalog.field-0.catalog c.in_ok-catalog.field-0.plans.items (said_from c.divide-divided.result.first (parts 10 c.divide-divided.result.lines.now)) c.in-Err.error c.lines_refusal.result
    c.in_ok-text.ensures.text (c.divide-divided.ensures.scenario ∙ ap scenario_of c.deref.ensures.value) c.in_ok-catalog.ensures.bound
    (c.divide-divided.ensures.lines ∙ ap said c.deref.ensures.value) c.in-Err.ensures c.lines_refusal.ensures
