-- Why no files are made, in the words of the function that finds it out.
use Rattle.std.specs.Prelude.{◌≡◌, ◌≢◌, ◌⊎◌, ℕ, Bool, true, List, [], length}
use Rattle.process_tree.specs.declared.plan.Plan.{Plan}
use Rattle.commute_table.specs.declared.catalog.Catalog.{Catalog}
use Rattle.command_refusals.specs.declared.refusal.Refusal.TheVariants as refusals
use Rattle.command_input.specs.declared.scenario.NoPlans.TheVariants as none
use Rattle.command_input.specs.Inputs.{Input}
use Rattle.command_input.specs.Scenarios.{AreNoGoodPlans}
use Rattle.replay_run.specs.Soundness.{IsUnsound}
use Rattle.value_conflict.specs.ValueConflict.{IsValueSound}
use Rattle.scenario_warnings.specs.Warnings.{warnings}
use Rattle.init_run.specs.Init.{IsCatalogRefused, IsHeldAgainst, IsHeldBack, SaysWarned}
use Rattle.init_run.specs.declared.strict.Unmade.{Unmade}
use Rattle.init_run.specs.declared.strict.Unmade.TheVariants.{Refused, Held}

-- memory was wanting, or there is something to warn of, and it is said how often
abbrev pub IsWarnedOf : Catalog → List Plan → Unmade → Type 0
IsWarnedOf c plans (Refused r) = r ≡ refusals.NoMemory
IsWarnedOf c plans (Held said) = (warnings c plans ≢ []) × SaysWarned (length (warnings c plans)) said

-- the text is refused, or held against a scenario that is to be strict
abbrev pub IsHeld : Bool → Catalog → List ℕ → Unmade → Type 0
IsHeld strict c text (Refused r) = (strict ≡ true) × AreNoGoodPlans c.ops text (none.Refused r)
IsHeld strict c text (Held said) = IsHeldAgainst strict c text said

-- the values are refused, or else the processes are, or held against it
abbrev pub IsUnpassed : Bool → Bool → Catalog → List ℕ → Unmade → Type 0
IsUnpassed values strict c text (Refused r) =
    ((values ≡ true) × IsUnsound c r)
    ⊎ ((values ≡ true → IsValueSound c) × (strict ≡ true) × AreNoGoodPlans c.ops text (none.Refused r))
IsUnpassed values strict c text (Held said) = (values ≡ true → IsValueSound c) × IsHeldAgainst strict c text said

-- the input is refused, or its processes are held against it
abbrev pub IsNotRead : Bool → Bool → Input → Input → Unmade → Type 0
IsNotRead values strict before after (Refused r) = IsCatalogRefused values strict r before after
IsNotRead values strict before after (Held said) = IsHeldBack values strict before after said
