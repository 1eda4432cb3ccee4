-- What is due to a call of `run`, in two parts: of the input, and of the files.
use Rattle.std.specs.Prelude.{⊤}
use Rattle.std.proofs.Common.{◌≡◌, ◌⊎◌, List, Result, Ok, Err, inl, inr}
use Rattle.process_tree.specs.declared.plan.Plan.{Plan}
use Rattle.commute_table.specs.declared.catalog.Catalog.{Catalog}
use Rattle.worker_gate.specs.ManyGates.{AskedGates}
use Rattle.command_refusals.specs.declared.refusal.Refusal.{Refusal}
use Rattle.command_refusals.specs.Order.{AllHold, Tests}
use Rattle.command_input.specs.declared.said.Said.{Said}
use Rattle.command_input.specs.FilesLeft.{Files, AreUntouched}
use Rattle.command_input.specs.Inputs.{Input}
use Rattle.command_input.proofs.ScenarioParts.{bound_holds, held_bound}
use Rattle.scenario_run.specs.Run.{run_opening_tests, IsRefusedOn, IsRunDue, IsRunOf}
use Rattle.scenario_run.specs.Scenario.{read_tests, IsNoScenarioRead, IsSaidOfNone, IsScenarioRead}
use Rattle.scenario_run.proofs.SaidFirst.{early_or_late, said_early, said_late, IsSaidEarly, IsSaidLate}

-- the tests of the input hold exactly where a scenario is read
pub read_holds : (before after : Input) (c : Catalog) (plans : List Plan) → IsScenarioRead before after c plans → AllHold (read_tests before after) (c, plans)
read_holds before after c plans (bytes, whole, bound) = (bytes, whole, bound_holds bytes c plans bound)

pub held_read : (before after : Input) (v : Catalog × List Plan) → AllHold (read_tests before after) v → IsScenarioRead before after v.0 v.1
held_read before after v (bytes, whole, all) = (bytes, whole, held_bound bytes v all)

module _ (before after : Input) (files files_after : Files) (gates : AskedGates) where
  -- the tests of the files behind what was read
  abbrev behind : Catalog × List Plan → Tests Refusal ⊤
  behind bound = run_opening_tests bound.0 bound.1 files files_after

  -- the input holds no scenario, and the counts of the gates are as they were
  abbrev pub IsNotRead : Result Said Refusal → Type 0
  IsNotRead found = IsSaidOfNone (IsNoScenarioRead before after) found × AreUntouched files files_after × (gates.after ≡ gates.before)

  -- one was read, and the files are refused, or run on
  abbrev pub IsReadAndRun : Result Said Refusal → Type 0
  IsReadAndRun found = (c : Catalog) × (plans : List Plan) × IsScenarioRead before after c plans
      × (IsRefusedOn gates c plans files files_after found ⊎ IsRunOf gates c plans files files_after found)

  by_part : (found : Result Said Refusal) → gates.after ≡ gates.before → IsSaidEarly (read_tests before after) behind files files_after found ⊎ IsSaidLate (read_tests before after) behind files files_after found
      → IsNotRead found ⊎ IsReadAndRun found
  by_part found unasked (inl (none, left)) = inl (none, left, unasked)
  by_part (Ok said) unasked (inr (v, held, none)) = absurd none
  by_part (Err r) unasked (inr (v, held, why)) = inr (v.0, v.1, held_read before after v held, inl (why, unasked))

  pub due_in_parts : (found : Result Said Refusal) → IsRunDue gates before after files files_after found → IsNotRead found ⊎ IsReadAndRun found
  due_in_parts found (inl (first, unasked)) = by_part found unasked (early_or_late (read_tests before after) behind files files_after found first)
  due_in_parts found (inr (c, plans, read, run)) = inr (c, plans, read, inr run)

  pub due_of_none : (found : Result Said Refusal) → IsNotRead found → IsRunDue gates before after files files_after found
  due_of_none found (none, left, unasked) = inl (said_early (read_tests before after) behind files files_after found (none, left), unasked)

  pub due_of_read : (c : Catalog) (plans : List Plan) (found : Result Said Refusal) → IsScenarioRead before after c plans
      → IsRefusedOn gates c plans files files_after found ⊎ IsRunOf gates c plans files files_after found → IsRunDue gates before after files files_after found
  due_of_read c plans found read (inr run) = inr (c, plans, read, run)
  due_of_read c plans (Ok said) read (inl none) = absurd none
  due_of_read c plans (Err r) read (inl (why, unasked)) = inl (said_late (read_tests before after) behind files files_after (c, plans) (Err r) (read_holds before after c plans read) why, unasked)
