use Rattle.std.proofs.Common.{◌≡◌, ◌∙◌, List, ap, subst, sym}
use Rattle.std.proofs.lemmas.Result.{IfOk-weaker}
use Rattle.process_tree.specs.declared.entry.Entry.{Entry}
use Rattle.process_tree.specs.declared.plan.Plan.{Plan}
use Rattle.value_replay.specs.Replays.{AreSteps}
use Rattle.serial_values.specs.Told.{values_text}
use Rattle.serial_values.proofs.SamePlans.{same_values_text}
use Rattle.audit_core.specs.declared.judging.Audited.{Audited}
use Rattle.audit_run.specs.declared.judging.Outcome.TheVariants.{Found}
use Rattle.audit_run.specs.Outcomes.{audited_values, IsOutcome}
use Rattle.audit_run.proofs.SameValues.{same_steps}
use Rattle.audit_run.proofs.SerialSteps.{told_steps}
use Rattle.audit_run.proofs.values.found_values.Goals as goal

pub values_text-requires-clause-steps : goal.values_text-requires-clause-steps
values_text-requires-clause-steps c =
    let is = subst (λ (found : Audited). IsOutcome c.args.c.now c.args.log.now (Found found)) c.in-Reducible.is c.requires.found in
    subst AreSteps (sym c.deref-in-Reducible.ensures.value)
    (told_steps c.args.c.now c.args.log.now c.in-Reducible.serial c.requires.catalog c.requires.sound is)

pub returns-in_ok-plans-in-Reducible : goal.returns-in_ok-plans-in-Reducible
returns-in_ok-plans-in-Reducible c =
    let catalog = c.args.c.now in
    let started = c.args.log.now.started in
    let plans = c.in_ok-plans-in-Reducible.plans.items in
    let copied = c.deref.result.now in
    let list = c.deref-in-Reducible.result.now in
    let serial = c.in-Reducible.serial.items in
    IfOk-weaker c.values_text.result (λ text. text.items ≡ values_text catalog copied list)
    (λ text. text.items ≡ audited_values catalog started c.args.found.now)
    (λ text is. is
    ∙ (ap (λ (ps : List Plan). values_text catalog ps list) c.deref.ensures.value
    ∙ (ap (λ (es : List Entry). values_text catalog plans es) c.deref-in-Reducible.ensures.value
    ∙ (same_values_text catalog plans started (same_steps plans started c.in_ok-plans-in-Reducible.ensures) serial
    ∙ sym (ap (λ (found : Audited). audited_values catalog started found) c.in-Reducible.is)))))
    c.values_text.ensures
