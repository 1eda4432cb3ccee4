-- The rule of the first event that may not come.
use Rattle.std.proofs.Common.{◌≡◌, ◌∙◌, ℕ, Option, Some, sym, subst}
use Rattle.commute_table.specs.declared.catalog.Catalog.{Catalog}
use Rattle.machine_model.specs.declared.blocked.Rule.{Rule}
use Rattle.schedule_model.specs.declared.history.History.{History}
use Rattle.audit_run.specs.History.{first_refused, rule_at, AreRuled, IsRuleOf}

module _ (c : Catalog) (h : History) (first : Option ℕ) (rule : Option Rule) (is : IsRuleOf c h first rule) where
  -- it is that of its place
  pub rule-there : (n : ℕ) → first ≡ Some n → rule ≡ rule_at c h n
  rule-there n at = let of = subst (λ f. IsRuleOf c h f rule) at is in of.1 ∙ sym of.2

  -- and it is there
  pub are-ruled : first ≡ first_refused c h → AreRuled c h
  are-ruled same n at = let of = subst (λ f. IsRuleOf c h f rule) (same ∙ at) is in (of.0, of.2)
