-- The scenario that a source has.
use Rattle.std.specs.Prelude.{◌≡◌, ℕ, List, Result, Ok, Err}
use Rattle.process_tree.specs.declared.plan.Plan.{Plan}
use Rattle.commute_table.specs.declared.catalog.Catalog.{Catalog}
use Rattle.command_refusals.specs.declared.refusal.Refusal.{Refusal}
use Rattle.command_refusals.specs.declared.status.Status.TheVariants as statuses
use Rattle.command_refusals.specs.Order.{Tests, test_then, IsFirstRefusal}
use Rattle.command_input.specs.declared.said.Said.{Said}
use Rattle.command_input.specs.declared.scenario.NoPlans.{NoPlans}
use Rattle.command_input.specs.declared.scenario.NoPlans.TheVariants.{Refused, IllFormed}
use Rattle.command_input.specs.Inputs.{Input, text_test, IsWholeText}
use Rattle.command_input.specs.Scenarios.{refusing, scenario_tests, IsBound}

-- the source was read to its end, and had the text of a scenario with this catalog, whose processes have these plans
abbrev pub IsScenarioRead : Input → Input → Catalog → List Plan → Type 0
IsScenarioRead before after c plans = (bytes : List ℕ) × IsWholeText before after bytes × IsBound bytes c plans

-- The tests of the input, in their order: its text comes, and then those of its scenario, whose catalog and plans are handed on.
abbrev pub read_tests : Input → Input → Tests NoPlans (Catalog × List Plan)
read_tests before after = test_then (refusing (text_test before after)) scenario_tests

-- why no scenario with well-formed processes was read: what is refused first of the input
abbrev pub IsNoScenarioRead : Input → Input → NoPlans → Type 0
IsNoScenarioRead before after none = IsFirstRefusal (read_tests before after) none

-- What there is to say where no processes were read, for a reason of this kind: the verdict line of the first that isn't
-- well-formed; all else is refused.
abbrev pub IsSaidOfNone : (NoPlans → Type 0) → Result Said Refusal → Type 0
IsSaidOfNone IsWhy (Ok said) = (said.status ≡ statuses.IllFormed) × IsWhy (IllFormed said.text)
IsSaidOfNone IsWhy (Err r) = IsWhy (Refused r)
