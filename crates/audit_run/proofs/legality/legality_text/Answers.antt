use Rattle.std.proofs.Common.{◌≡◌}
use Rattle.std.proofs.lemmas.Result.{IfOk-weaker}
use Rattle.audit_run.specs.History.{legality_text, AreRuled}
use Rattle.audit_run.proofs.Ruled.{are-ruled}
use Rattle.audit_run.proofs.legality.legality_text.Goals as goal

pub returns-clause-ruled : goal.returns-clause-ruled
returns-clause-ruled c =
    let catalog = c.args.c.now in
    let h = c.args.h.now in
    IfOk-weaker c.text_of_rule.result (λ text. text.items ≡ legality_text catalog h c.args.first) (λ _. AreRuled catalog h)
    (λ text is. are-ruled catalog h c.args.first c.in_ok-rule.rule c.in_ok-rule.ensures c.requires.first) c.text_of_rule.ensures
