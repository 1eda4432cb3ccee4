-- What is due to a call of `serve` that holds no dialogue, in two parts: of the input, and of the files.
use Rattle.std.specs.Prelude.{⊤}
use Rattle.std.proofs.Common.{◌⊎◌, ℕ, List, [], ◌++◌, Result, Ok, Err, inl, inr, refl, subst, sym}
use Rattle.std.proofs.KnownBytes.{Consumes-nil}
use Rattle.process_tree.specs.declared.plan.Plan.{Plan}
use Rattle.commute_table.specs.declared.catalog.Catalog.{Catalog}
use Rattle.command_refusals.specs.declared.refusal.Refusal.{Refusal}
use Rattle.command_refusals.specs.Order.{AllHold, Tests}
use Rattle.command_input.specs.declared.said.Said.{Said}
use Rattle.command_input.specs.FilesLeft.{Files, AreUntouched}
use Rattle.command_input.specs.Inputs.{Input}
use Rattle.command_input.specs.Scenarios.{IsBound}
use Rattle.command_input.proofs.ScenarioParts.{bound_holds, held_bound}
use Rattle.scenario_run.specs.Opening.{opening_tests}
use Rattle.scenario_run.specs.Scenario.{IsSaidOfNone}
use Rattle.scenario_run.proofs.SaidFirst.{early_or_late, said_early, said_late, IsSaidEarly, IsSaidLate}
use Rattle.driver_input.specs.Preamble.{IsScenarioTaken}
use Rattle.serve_run.specs.Serve.{read_tests, IsNoServeRead, IsNotServed, IsNotServedOn, IsServeRead}

module _ (before after : Input) where
  -- the tests of the input hold where a scenario was taken and nothing since,
  pub read_holds : (c : Catalog) (plans : List Plan) (scenario ready : List ℕ) (first : ℕ) → IsScenarioTaken before.left after.left scenario ready first → IsBound scenario c plans → AllHold (read_tests before after) (c, plans)
  read_holds c plans scenario ready first taken bound = (scenario, (ready, first, taken), bound_holds scenario c plans bound)

  -- and then one was read
  held_read : (v : Catalog × List Plan) → AllHold (read_tests before after) v → (first : ℕ) × (taken : List ℕ) × IsServeRead before after v.0 v.1 first taken
  held_read v (scenario, (ready, first, taken), all) = (
    first,
    ready ++ [],
    record { scenario = scenario; ready = ready; mid = after.left; preamble = taken; bound = held_bound scenario v all; given = []; consumed = Consumes-nil after.left; bytes = refl },
  )

  module _ (files files_after : Files) where
    -- the tests of the files behind what was read
    abbrev behind : Catalog × List Plan → Tests Refusal ⊤
    behind bound = opening_tests bound.0 files files_after

    -- the input holds no scenario, and the files are as they were
    abbrev pub IsNotRead : Result Said Refusal → Type 0
    IsNotRead found = IsSaidOfNone (IsNoServeRead before after) found × AreUntouched files files_after

    -- one was read, and no dialogue was held
    abbrev pub IsReadAndNotServed : Result Said Refusal → Type 0
    IsReadAndNotServed found = (c : Catalog) × (plans : List Plan) × (first : ℕ) × (taken : List ℕ) × IsServeRead before after c plans first taken × IsNotServedOn c files files_after found

    by_part : (found : Result Said Refusal) → IsSaidEarly (read_tests before after) behind files files_after found ⊎ IsSaidLate (read_tests before after) behind files files_after found → IsNotRead found ⊎ IsReadAndNotServed found
    by_part found (inl early) = inl early
    by_part (Ok s) (inr (v, held, none)) = absurd none
    by_part (Err r) (inr (v, held, why)) = let read = held_read v held in inr (v.0, v.1, read.0, read.1, read.2, inl why)

    pub not_served_in_parts : (found : Result Said Refusal) → IsNotServed before after files files_after found → IsNotRead found ⊎ IsReadAndNotServed found
    not_served_in_parts found (inl first) = by_part found (early_or_late (read_tests before after) behind files files_after found first)
    not_served_in_parts found (inr (c, plans, first, taken, read, (r, is, none))) = inr (c, plans, first, taken, read, subst (IsNotServedOn c files files_after) (sym is) (inr none))

    pub not_served_of_none : (found : Result Said Refusal) → IsNotRead found → IsNotServed before after files files_after found
    not_served_of_none found none = inl (said_early (read_tests before after) behind files files_after found none)

    pub not_served_of_read : (c : Catalog) (plans : List Plan) (scenario ready : List ℕ) (first : ℕ) → IsScenarioTaken before.left after.left scenario ready first → IsBound scenario c plans → (taken : List ℕ)
        → IsServeRead before after c plans first taken → (found : Result Said Refusal) → IsNotServedOn c files files_after found → IsNotServed before after files files_after found
    not_served_of_read c plans scenario ready first preamble bound taken read (Ok s) none = absurd none
    not_served_of_read c plans scenario ready first preamble bound taken read (Err r) (inl why) =
        inl (said_late (read_tests before after) behind files files_after (c, plans) (Err r) (read_holds c plans scenario ready first preamble bound) why)
    not_served_of_read c plans scenario ready first preamble bound taken read (Err r) (inr none) = inr (c, plans, first, taken, read, (r, refl, none))
