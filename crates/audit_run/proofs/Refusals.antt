-- What a text comes to, by its parts.
use Rattle.std.proofs.Common.{◌≡◌, ◌∙◌, ◌⊎◌, ℕ, List, Err, inl, inr, refl, sym, subst}
use Rattle.process_tree.specs.declared.plan.Plan.{Plan}
use Rattle.commute_table.specs.declared.catalog.Catalog.{Catalog}
use Rattle.command_refusals.specs.declared.refusal.Refusal.{Refusal}
use Rattle.command_refusals.specs.Order.{last_test, IsFirstRefusal}
use Rattle.command_refusals.proofs.Orders.{refused_before, refused_behind}
use Rattle.command_input.specs.declared.scenario.NoPlans.{NoPlans}
use Rattle.command_input.specs.declared.scenario.NoPlans.TheVariants.{Refused}
use Rattle.command_input.specs.Scenarios.{refusing, scenario_tests, IsBound, IsNotBound}
use Rattle.command_input.proofs.ScenarioParts.{bound_holds}
use Rattle.session_text.specs.declared.line.LinesError.{LinesError}
use Rattle.session_text.specs.declared.line.LinesError.TheVariants as errors
use Rattle.session_text.specs.Sessions.{scenario_of}
use Rattle.audit_text.specs.Logs.{Reading, log_of}
use Rattle.audit_run.specs.Audit.{lines_refusal, log_test, written_tests, HasBadLine}

-- the scenario is refused,
pub unbound : (bytes scenario : List ℕ) (none : NoPlans) → scenario ≡ scenario_of bytes → IsNotBound scenario none → IsFirstRefusal (written_tests bytes) none
unbound bytes scenario none same is =
    refused_before (scenario_tests (scenario_of bytes)) (λ bound. last_test (refusing (log_test bound.1 bytes))) none (subst (λ s. IsNotBound s none) same is)

-- or what is refused behind it,
pub behind : (bytes scenario : List ℕ) (c : Catalog) (plans : List Plan) (r : Refusal) → scenario ≡ scenario_of bytes → IsBound scenario c plans → HasBadLine plans bytes r
    → IsFirstRefusal (written_tests bytes) (Refused r)
behind bytes scenario c plans r same bound why =
    refused_behind (scenario_tests (scenario_of bytes)) (λ bound. last_test (refusing (log_test bound.1 bytes))) (Refused r) (c, plans)
    (bound_holds (scenario_of bytes) c plans (subst (λ s. IsBound s c plans) same bound)) why

-- which is a line
pub bad_line : (plans : List Plan) (bytes : List ℕ) (said : Reading) (e : LinesError) → said ≡ log_of plans bytes
    → (e ≡ errors.NoMemory) ⊎ ((n : ℕ) × (e ≡ errors.BadLine n) × (said ≡ Err n)) → HasBadLine plans bytes (lines_refusal e)
bad_line plans bytes said e same (inl memory) = subst (λ x. HasBadLine plans bytes (lines_refusal x)) (sym memory) (inl refl)
bad_line plans bytes said e same (inr (n, bad, is)) = subst (λ x. HasBadLine plans bytes (lines_refusal x)) (sym bad) (inr (n, refl, sym same ∙ is))
