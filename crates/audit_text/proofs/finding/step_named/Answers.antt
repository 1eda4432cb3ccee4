use Rattle.std.proofs.Common.{◌≡◌, ◌∙◌, true, false, ap, sym, arith}
use Rattle.process_tree.specs.Blocks.{outline}
use Rattle.process_tree.specs.Making.{same_text}
use Rattle.audit_text.proofs.StepNames.{named_next}
use Rattle.audit_text.proofs.finding.step_named.Goals as goal

pub returns-then-is_word : goal.returns-then-is_word
returns-then-is_word c =
    let same : same_text c.step.result.now.name c.args.name.now ≡ true = ap (λ t. same_text t c.args.name.now) (sym c.bytes.ensures.bytes) ∙ (sym c.is_word.ensures ∙ c.if-is_word.true) in
    sym (named_next c.args.name.now (outline c.args.plan.now.tree).steps c.loop-step.step c.step.result.now true c.step.ensures same) ∙ c.loop-step.invariant.found

pub loop-step-preserved : goal.loop-step-preserved
loop-step-preserved c =
    let same : same_text c.step.result.now.name c.args.name.now ≡ false = ap (λ t. same_text t c.args.name.now) (sym c.bytes.ensures.bytes) ∙ (sym c.is_word.ensures ∙ c.if-is_word.false) in
    record {
      within = omega arith;
      found = sym (named_next c.args.name.now (outline c.args.plan.now.tree).steps c.loop-step.step c.step.result.now false c.step.ensures same) ∙ c.loop-step.invariant.found;
    }
