-- What is due to a call of `session`, in two parts: of the input, and of the files and the lines.
use Rattle.std.specs.Prelude.{⊤}
use Rattle.std.proofs.Common.{◌≡◌, ◌⊎◌, ℕ, List, Vec, Result, Ok, Err, inl, inr, refl, subst, sym}
use Rattle.std.specs.declared.alloc.Global.{Global}
use Rattle.process_tree.specs.declared.plan.Plan.{Plan}
use Rattle.commute_table.specs.declared.catalog.Catalog.{Catalog}
use Rattle.command_refusals.specs.declared.refusal.Refusal.{Refusal}
use Rattle.command_refusals.specs.Order.{last_test, AllHold, Tests}
use Rattle.command_refusals.proofs.Orders as orders
use Rattle.command_input.specs.declared.said.Said.{Said}
use Rattle.command_input.specs.declared.scenario.NoPlans.TheVariants.{Refused, IllFormed}
use Rattle.command_input.specs.FilesLeft.{Files, AreUntouched}
use Rattle.command_input.specs.Inputs.{Input, HasNoText, IsWholeText}
use Rattle.command_input.specs.Scenarios.{refusing, scenario_tests, IsBound, IsNotBound}
use Rattle.command_input.proofs.ScenarioParts.{bound_holds, held_bound}
use Rattle.scenario_run.specs.Opening.{idle_opening_tests}
use Rattle.scenario_run.specs.Scenario.{IsSaidOfNone}
use Rattle.scenario_run.proofs.SaidFirst.{early_or_late, said_early, said_late, IsSaidEarly, IsSaidLate}
use Rattle.session_text.specs.declared.line.Line.{Line}
use Rattle.session_text.specs.Sessions.{said, scenario_of}
use Rattle.session_run.specs.Session.{lines_test, read_tests, HasBadLine, IsNoSessionRead, IsPlayedOn, IsSessionDue, IsSessionRead}

-- why the text behind a source is no session: its scenario is refused, or a line
abbrev pub IsTextRefused : Input → Input → Refusal → Type 0
IsTextRefused before after r = (bytes : List ℕ) × IsWholeText before after bytes
    × (IsNotBound (scenario_of bytes) (Refused r) ⊎ (((c : Catalog) × (plans : List Plan) × IsBound (scenario_of bytes) c plans) × HasBadLine bytes r))

module _ (before after : Input) where
  pub not_read : (r : Refusal) → IsNoSessionRead before after (Refused r) → HasNoText r before after ⊎ IsTextRefused before after r
  not_read r (inl lack) = inl lack
  not_read r (inr (bytes, whole, why)) = by (orders.in_parts (scenario_tests (scenario_of bytes)) (λ bound. last_test (refusing (lines_test bytes bound))) (Refused r) why)
    where
      by : IsNotBound (scenario_of bytes) (Refused r) ⊎ ((v : Catalog × List Plan) × AllHold (scenario_tests (scenario_of bytes)) v × HasBadLine bytes r) → HasNoText r before after ⊎ IsTextRefused before after r
      by (inl none) = inr (bytes, whole, inl none)
      by (inr (v, held, bad)) = inr (bytes, whole, inr ((v.0, v.1, held_bound (scenario_of bytes) v held), bad))

  pub ill_formed : (line : Vec ℕ Global) → IsNoSessionRead before after (IllFormed line) → (bytes : List ℕ) × IsWholeText before after bytes × IsNotBound (scenario_of bytes) (IllFormed line)
  ill_formed line (inl none) = absurd none
  ill_formed line (inr (bytes, whole, why)) = by (orders.in_parts (scenario_tests (scenario_of bytes)) (λ bound. last_test (refusing (lines_test bytes bound))) (IllFormed line) why)
    where
      by : IsNotBound (scenario_of bytes) (IllFormed line) ⊎ ((v : Catalog × List Plan) × AllHold (scenario_tests (scenario_of bytes)) v × ⊥) → (bytes : List ℕ) × IsWholeText before after bytes × IsNotBound (scenario_of bytes) (IllFormed line)
      by (inl none) = (bytes, whole, none)
      by (inr (v, held, none)) = absurd none

  -- the tests of the input hold exactly where a session is read
  read_holds : (c : Catalog) (plans : List Plan) (lines : List Line) → IsSessionRead before after c plans lines → AllHold (read_tests before after) (c, plans)
  read_holds c plans lines (bytes, whole, bound, are) =
      (bytes, whole, orders.all_hold_both (scenario_tests (scenario_of bytes)) (λ bound. last_test (refusing (lines_test bytes bound))) (c, plans) (c, plans) (bound_holds (scenario_of bytes) c plans bound) (refl, (lines, are)))

  held_read : (v : Catalog × List Plan) → AllHold (read_tests before after) v → (lines : List Line) × IsSessionRead before after v.0 v.1 lines
  held_read v (bytes, whole, all) = by (orders.both_held (scenario_tests (scenario_of bytes)) (λ bound. last_test (refusing (lines_test bytes bound))) v all)
    where
      by : (w : Catalog × List Plan) × AllHold (scenario_tests (scenario_of bytes)) w × ((v ≡ w) × ((lines : List Line) × (said bytes ≡ Ok lines))) → (lines : List Line) × IsSessionRead before after v.0 v.1 lines
      by (w, held, (same, (lines, are))) = (lines, (bytes, whole, held_bound (scenario_of bytes) v (subst (AllHold (scenario_tests (scenario_of bytes))) (sym same) held), are))

  module _ (files files_after : Files) where
    -- the tests of the files behind what was read
    abbrev behind : Catalog × List Plan → Tests Refusal ⊤
    behind bound = idle_opening_tests bound.0 files files_after

    -- no session was read, and the files are as they were
    abbrev pub IsNotRead : Result Said Refusal → Type 0
    IsNotRead found = IsSaidOfNone (IsNoSessionRead before after) found × AreUntouched files files_after

    -- one was, and the files are refused, or the lines are played on them
    abbrev pub IsReadAndPlayed : Result Said Refusal → Type 0
    IsReadAndPlayed found = (c : Catalog) × (plans : List Plan) × (lines : List Line) × IsSessionRead before after c plans lines × IsPlayedOn c plans lines files files_after found

    by_part : (found : Result Said Refusal) → IsSaidEarly (read_tests before after) behind files files_after found ⊎ IsSaidLate (read_tests before after) behind files files_after found → IsNotRead found ⊎ IsReadAndPlayed found
    by_part found (inl early) = inl early
    by_part (Ok s) (inr (v, held, none)) = absurd none
    by_part (Err r) (inr (v, held, why)) = let read = held_read v held in inr (v.0, v.1, read.0, read.1, inl why)

    pub due_in_parts : (found : Result Said Refusal) → IsSessionDue before after files files_after found → IsNotRead found ⊎ IsReadAndPlayed found
    due_in_parts found (inl first) = by_part found (early_or_late (read_tests before after) behind files files_after found first)
    due_in_parts (Ok s) (inr (c, plans, lines, read, on)) = inr (c, plans, lines, read, on)
    due_in_parts (Err r) (inr (c, plans, lines, read, none)) = inr (c, plans, lines, read, inr none)

    pub due_of_none : (found : Result Said Refusal) → IsNotRead found → IsSessionDue before after files files_after found
    due_of_none found none = inl (said_early (read_tests before after) behind files files_after found none)

    pub due_of_read : (c : Catalog) (plans : List Plan) (lines : List Line) (found : Result Said Refusal) → IsSessionRead before after c plans lines → IsPlayedOn c plans lines files files_after found
        → IsSessionDue before after files files_after found
    due_of_read c plans lines (Ok s) read on = inr (c, plans, lines, read, on)
    due_of_read c plans lines (Err r) read (inr none) = inr (c, plans, lines, read, none)
    due_of_read c plans lines (Err r) read (inl why) = inl (said_late (read_tests before after) behind files files_after (c, plans) (Err r) (read_holds c plans lines read) why)
