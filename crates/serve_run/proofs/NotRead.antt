-- A scenario that was taken and is none.
use Rattle.std.proofs.Common.{◌≡◌, ℕ, List, inr, subst}
use Rattle.command_input.specs.declared.scenario.NoPlans.{NoPlans}
use Rattle.command_input.specs.Inputs.{Input}
use Rattle.command_input.specs.Scenarios.{IsNotBound}
use Rattle.driver_input.specs.Preamble.{IsScenarioTaken}
use Rattle.serve_run.specs.Serve.{IsNoServeRead}

pub not_bound : (before after : Input) (scenario ready : List ℕ) (first : ℕ) (bytes : List ℕ) (none : NoPlans) → IsScenarioTaken before.left after.left scenario ready first → bytes ≡ scenario
    → IsNotBound bytes none → IsNoServeRead before after none
not_bound before after scenario ready first bytes none taken same why = inr (scenario, (ready, first, taken), subst (λ b. IsNotBound b none) same why)
