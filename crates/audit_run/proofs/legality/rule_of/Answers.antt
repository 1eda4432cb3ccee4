use Rattle.std.proofs.Common.{Some, None, refl, subst, sym}
use Rattle.audit_run.specs.History.{IsRuleOf}
use Rattle.audit_run.proofs.legality.rule_of.Goals as goal

pub returns-in_ok-refusing_rule-in-Some : goal.returns-in_ok-refusing_rule-in-Some
returns-in_ok-refusing_rule-in-Some c =
    let rule = c.in_ok-refusing_rule-in-Some.field-0 in
    subst (λ first. IsRuleOf c.args.c.now c.args.h.now first (Some rule)) (sym c.in-Some.is) (rule, refl, c.in_ok-refusing_rule-in-Some.ensures)

pub returns-in-None : goal.returns-in-None
returns-in-None c = subst (λ first. IsRuleOf c.args.c.now c.args.h.now first None) (sym c.in-None.is) refl
