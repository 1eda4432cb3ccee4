use Rattle.std.proofs.Common.{◌∙◌, sym, ap, arith}
use Rattle.machine_model.specs.Replies.{admit_reply}
use Rattle.core_state.specs.Cores.{courses_in, moment_of, relation}
use Rattle.process_core.specs.Handing.{admit_reply_of}
use Rattle.process_core.specs.Rotation.{exhausted_in}
use Rattle.process_core.proofs.Exhausted.{not_exhausted}
use Rattle.process_core.proofs.Rotations.{told_here, told_next}
use Rattle.process_core.proofs.cores.Core.first_exhausted.Goals as goal

pub returns-in-Exhausted : goal.returns-in-Exhausted
returns-in-Exhausted c =
    let v = c.args.self.now in
    sym (told_here (λ i. exhausted_in i (admit_reply (relation v) (courses_in v) (moment_of v) i)) c.args.from c.loop-i.i c.args.to c.loop-i.i c.loop-i.invariant.1 c.loop-i-test.true c.loop-i.invariant.0
    (ap (exhausted_in c.loop-i.i) (sym c.reply_of.ensures) ∙ ap (λ r. exhausted_in c.loop-i.i (admit_reply_of r)) c.in-Exhausted.is))

pub loop-i-preserved : goal.loop-i-preserved
loop-i-preserved c =
    let v = c.args.self.now in
    let low = c.loop-i.invariant.1 in (
      told_next (λ i. exhausted_in i (admit_reply (relation v) (courses_in v) (moment_of v) i)) c.args.from c.loop-i.i low c.loop-i.invariant.0
          ∙ (ap (exhausted_in c.loop-i.i) (sym c.reply_of.ensures) ∙ not_exhausted c.loop-i.i c.reply_of.result c.in_default.not-Exhausted),
      omega arith,
    )
