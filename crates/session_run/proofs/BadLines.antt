-- Why no session was read, by its parts.
use Rattle.std.proofs.Common.{◌≡◌, ◌∙◌, ℕ, List, Err, inl, inr, refl, sym, subst}
use Rattle.process_tree.specs.declared.plan.Plan.{Plan}
use Rattle.commute_table.specs.declared.catalog.Catalog.{Catalog}
use Rattle.command_refusals.specs.declared.refusal.Refusal.{Refusal}
use Rattle.command_input.specs.declared.scenario.NoPlans.{NoPlans}
use Rattle.command_refusals.specs.Order.{last_test}
use Rattle.command_refusals.proofs.Orders.{refused_before, refused_behind}
use Rattle.command_input.specs.declared.scenario.NoPlans.TheVariants.{Refused}
use Rattle.command_input.specs.Inputs.{Input, IsWholeText}
use Rattle.command_input.specs.Scenarios.{refusing, scenario_tests, IsBound, IsNotBound}
use Rattle.command_input.proofs.ScenarioParts.{bound_holds}
use Rattle.session_text.specs.declared.line.LinesError.{LinesError}
use Rattle.session_text.specs.declared.line.LinesError.TheVariants as errors
use Rattle.session_text.specs.Sessions.{Answers, Said, said, scenario_of}
use Rattle.session_run.specs.Session.{lines_refusal, lines_test, HasBadLine, IsNoSessionRead}

-- what was refused of lines
has_bad : (bytes : List ℕ) (lines : Said) (e : LinesError) → lines ≡ said bytes → Answers lines (Err e) → HasBadLine bytes (lines_refusal e)
has_bad bytes lines (errors.BadLine n) same is = inr (n, refl, sym same ∙ is)
has_bad bytes lines errors.NoMemory same is = inl refl

-- The scenario is refused,
pub not_bound : (before after : Input) (bytes scenario : List ℕ) (none : NoPlans) → IsWholeText before after bytes → scenario ≡ scenario_of bytes → IsNotBound scenario none → IsNoSessionRead before after none
not_bound before after bytes scenario none whole same is =
    inr (bytes, whole, refused_before (scenario_tests (scenario_of bytes)) (λ bound. last_test (refusing (lines_test bytes bound))) none (subst (λ s. IsNotBound s none) same is))

-- or a line.
pub bad_line : (before after : Input) (bytes scenario : List ℕ) (c : Catalog) (plans : List Plan) (lines : Said) (e : LinesError) (r : Refusal) → IsWholeText before after bytes → scenario ≡ scenario_of bytes
    → IsBound scenario c plans → lines ≡ said bytes → Answers lines (Err e) → r ≡ lines_refusal e → IsNoSessionRead before after (Refused r)
bad_line before after bytes scenario c plans lines e r whole scene bound same is told =
    inr (
      bytes,
      whole,
      refused_behind (scenario_tests (scenario_of bytes)) (λ bound. last_test (refusing (lines_test bytes bound))) (Refused r) (c, plans)
          (bound_holds (scenario_of bytes) c plans (subst (λ s. IsBound s c plans) scene bound)) (subst (HasBadLine bytes) (sym told) (has_bad bytes lines e same is)),
    )
