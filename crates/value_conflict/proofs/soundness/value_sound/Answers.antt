use Rattle.std.proofs.Common.{◌∙◌, ap, arith}
use Rattle.value_conflict.specs.Soundness.{pair_with}
use Rattle.value_conflict.proofs.LeastPair.{among-step}
use Rattle.value_conflict.proofs.soundness.value_sound.Goals as goal

pub loop-a-preserved : goal.loop-a-preserved
loop-a-preserved c = c.loop-a.invariant ∙ among-step c.args.c.now c.loop-a.a _ (omega arith) (c.first_with.ensures ∙ ap (pair_with c.loop-a.a) c.in_default.is)
