use Rattle.std.proofs.Common.{◌≡◌, Err, IfErr, rules, subst, sym}
use Rattle.process_tree.specs.declared.plan.Plan.{Plan}
use Rattle.process_tree.proofs.Every.{Each-weaker}
use Rattle.schedule_model.specs.Laws.{IsGoodPlan}
use Rattle.engine_steps.specs.Beginning.{IsPlanFor}
use Rattle.command_input.specs.Inputs.{input}
use Rattle.scenario_run.proofs.ScenarioPlans.{bound_start}
use Rattle.serve_run.specs.Serve.{IsNoServeRead}
use Rattle.serve_run.proofs.NotRead.{not_bound}
use Rattle.serve_run.proofs.command.scene_of.Goals as goal

pub returns-in_err-catalog-clause-refused : goal.returns-in_err-catalog-clause-refused
returns-in_err-catalog-clause-refused g c =
    let before = input g.S.Source c.args.source.now in
    let after = input g.S.Source c.take_scenario.new.source in
    let failed : c.from_residual-in_err-catalog.result ≡ Err c.in_err-catalog.field-0.0 = search rules in
    subst (λ r. IfErr r (IsNoServeRead before after)) (sym failed)
    (not_bound before after c.in_ok-scenario.field-0.scenario.items c.take_scenario.new.reader c.in_ok-scenario.field-0.first c.deref.result.now c.in_err-catalog.field-0.0 c.in_ok-scenario.ensures.taken
    c.deref.ensures.value c.in_err-catalog.ensures.refused)

pub returns-clause-plans : goal.returns-clause-plans
returns-clause-plans g c =
    let cat = c.in_ok-catalog.field-0.catalog in
    let plans = c.in_ok-catalog.field-0.plans.items in
    Each-weaker (λ (p : Plan). IsPlanFor cat p × IsGoodPlan p) (IsPlanFor cat) (λ p both. both.0) plans (bound_start c.deref.result.now cat plans c.in_ok-catalog.ensures.bound)
