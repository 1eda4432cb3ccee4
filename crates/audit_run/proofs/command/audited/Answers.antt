use Rattle.std.proofs.Common.{◌≡◌, List, Err, length, rules, subst, sym}
use Rattle.process_tree.specs.Order.{Each}
use Rattle.process_tree.specs.declared.plan.Plan.{Plan}
use Rattle.trace_verify.specs.Lines.{parts}
use Rattle.audit_text.specs.Copies.{IsGoodFor}
use Rattle.audit_text.specs.Logs.{log_from, nothing}
use Rattle.audit_run.specs.Audit.{lines_refusal, HasBadLine, IsTextAudited}
use Rattle.audit_run.proofs.Refusals.{bad_line, behind, unbound}
use Rattle.audit_run.proofs.ScenarioPlans.{bound_good}
use Rattle.audit_run.proofs.command.audited.Goals as goal

pub returns-in_err-catalog : goal.returns-in_err-catalog
returns-in_err-catalog c =
    let failed : c.from_residual.result ≡ Err c.in_err-catalog.field-0.0 = search rules in
    subst (IsTextAudited c.args.text.now) (sym failed)
    (unbound c.args.text.now c.divide-divided.result.scenario.now c.in_err-catalog.field-0.0 c.divide-divided.ensures.scenario c.in_err-catalog.ensures.refused)

pub said_of-requires-clause-sound : goal.said_of-requires-clause-sound
said_of-requires-clause-sound c =
    let found = c.in_ok-catalog.field-0 in
    let count = length found.catalog.ops in
    c.in-Ok.ensures.sound count
    (subst (λ (ps : List Plan). Each (IsGoodFor count) ps) (sym c.deref.ensures.value)
    (bound_good c.divide-divided.result.scenario.now found.catalog found.plans.items c.in_ok-catalog.ensures.bound))

pub returns : goal.returns
returns c =
    let text = c.args.text.now in
    let found = c.in_ok-catalog.field-0 in
    let read = c.deref.result.now in
    let said = log_from read nothing c.divide-divided.result.first (parts 10 c.divide-divided.result.lines.now) in
    let why = bad_line read text said c.in-Err.error (c.divide-divided.ensures.lines read) c.in-Err.ensures.bad in
    behind text c.divide-divided.result.scenario.now found.catalog found.plans.items c.lines_refusal.result c.divide-divided.ensures.scenario
    c.in_ok-catalog.ensures.bound
    (subst (HasBadLine found.plans.items text) (sym c.lines_refusal.ensures)
    (subst (λ (ps : List Plan). HasBadLine ps text (lines_refusal c.in-Err.error)) c.deref.ensures.value why))
