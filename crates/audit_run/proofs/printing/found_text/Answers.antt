use Rattle.std.proofs.Common.{◌≡◌, ◌∙◌, List, length, ap, rules}
use Rattle.std.proofs.lemmas.Result.{IfOk-weaker}
use Rattle.process_tree.specs.declared.plan.Plan.{Plan}
use Rattle.process_report.specs.Report.{form_of}
use Rattle.audit_run.specs.Outcomes.{audited_text}
use Rattle.audit_run.proofs.SameNames.{same_text_of}
use Rattle.audit_run.proofs.printing.found_text.Goals as goal

pub returns : goal.returns
returns c =
    let form = form_of c.args.c.now in
    let ops = c.args.c.now.ops in
    let log = c.args.log.now in
    let found = c.args.found.now in
    let plans = c.in_ok-plans.plans.items in
    let count : c.len.result ≡ length log.events = search rules in
    IfOk-weaker c.audited_text.result (λ text. text.items ≡ audited_text form c.deref.result.now ops c.len.result found)
    (λ text. text.items ≡ audited_text form log.started ops (length log.events) found)
    (λ text is. is
    ∙ (ap (λ (ps : List Plan). audited_text form ps ops c.len.result found) c.deref.ensures.value
    ∙ (ap (λ n. audited_text form plans ops n found) count ∙ same_text_of plans log.started c.in_ok-plans.ensures ops form (length log.events) found)))
    c.audited_text.ensures
