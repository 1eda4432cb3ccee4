-- What is said where no processes were read is due.
use Rattle.std.proofs.Common.{◌≡◌, Result, Ok, Err, subst, sym}
use Rattle.command_refusals.specs.declared.refusal.Refusal.{Refusal}
use Rattle.command_input.specs.declared.said.Said.{Said}
use Rattle.command_input.specs.declared.scenario.NoPlans.{NoPlans}
use Rattle.scenario_run.specs.Scenario.{IsSaidOfNone}

-- what holds of the reason is said
pub said_of : (IsWhy : NoPlans → Type 0) (none : NoPlans) (found : Result Said Refusal) → IsSaidOfNone (λ why. why ≡ none) found → IsWhy none → IsSaidOfNone IsWhy found
said_of IsWhy none (Ok said) is why = (is.0, subst IsWhy (sym is.1) why)
said_of IsWhy none (Err r) is why = subst IsWhy (sym is) why
