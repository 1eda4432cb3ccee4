use Rattle.std.proofs.Common.{List, ℕ, inr, refl, subst}
use Rattle.command_refusals.specs.Order.{IsFirstRefusal}
use Rattle.command_input.specs.declared.scenario.NoPlans.{NoPlans}
use Rattle.command_input.specs.declared.scenario.NoPlans.TheVariants.{Refused, IllFormed}
use Rattle.audit_run.specs.Audit.{written_tests}
use Rattle.audit_run.proofs.command.audit.Goals as goal

pub returns-in-Err-Refused : goal.returns-in-Err-Refused
returns-in-Err-Refused g c =
    let why = subst (λ (n : NoPlans). IsFirstRefusal (written_tests c.deref.result.now) n) c.in-Err-Refused.field-0-is c.in-Err-Refused.ensures in
    inr (
      c.in_ok-text.text.items,
      c.in_ok-text.ensures.text,
      subst (λ (t : List ℕ). IsFirstRefusal (written_tests t) (Refused c.in-Err-Refused.refusal)) c.deref.ensures.value why,
    )

pub returns : goal.returns
returns g c =
    let why = subst (λ (n : NoPlans). IsFirstRefusal (written_tests c.deref.result.now) n) c.in-Err-IllFormed.field-0-is c.in-Err-IllFormed.ensures in (
      c.in_ok-text.text.items,
      c.in_ok-text.ensures.text,
      inr (record {
        line = c.in-Err-IllFormed.line;
        first = subst (λ (t : List ℕ). IsFirstRefusal (written_tests t) (IllFormed c.in-Err-IllFormed.line)) c.deref.ensures.value why;
        printed = refl;
        ended = refl;
      }),
    )
