use Rattle.std.proofs.Common.{◌∙◌, sym, arith}
use Rattle.value_conflict.proofs.LeastPair.{with-step}
use Rattle.value_conflict.proofs.soundness.first_with.Goals as goal

pub loop-b-preserved : goal.loop-b-preserved
loop-b-preserved c =
    c.loop-b.invariant
    ∙ with-step c.args.c.now c.args.a c.loop-b.b c.args.count (omega arith) (sym c.is_commuting.ensures ∙ c.if-is_commuting.false)
