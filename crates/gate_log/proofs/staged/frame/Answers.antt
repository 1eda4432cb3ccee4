use Rattle.std.proofs.Common.{arith}
use Rattle.gate_log.proofs.Framing.{framed_front}
use Rattle.gate_log.proofs.staged.frame.Goals as goal

pub returns-clause-bytes : goal.returns-clause-bytes
returns-clause-bytes c =
    let parts = c.split_at_mut-head.ensures in
    let copied = c.copy_from_slice.ensures.after in
    rw copied (framed_front c.split_at_mut-head.result.0.now c.args.body.now c.split_at_mut-head.result.1.now 1 _ _ 0 parts.front_len (omega (arith, parts.back_len)))
