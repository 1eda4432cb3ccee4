use Rattle.std.proofs.Common.{◌≡◌, false, sym, ◌∙◌}
use Rattle.refusal_hints.specs.Words.{stands_alone}
use Rattle.refusal_hints.proofs.Nearer.{or_last}
use Rattle.refusal_hints.proofs.words.first_alone.Goals as goal

pub loop-n-preserved : goal.loop-n-preserved
loop-n-preserved c =
    or_last (λ k. stands_alone c.args.text.now c.args.name.now k ≡ false) c.loop-n.n c.loop-n.invariant (sym c.stands_alone.ensures ∙ c.if-stands_alone.false)
