use Rattle.std.proofs.Common.{arith}
use Rattle.gate_log.proofs.Framing.{framed_behind}
use Rattle.gate_log.proofs.staged.frame_at.Goals as goal

pub returns-clause-bytes : goal.returns-clause-bytes
returns-clause-bytes c =
    let parts = c.split_at_mut-rest.ensures in
    let count = c.frame.ensures.size in
    rw (← count) (framed_behind c.args.at _ c.split_at_mut-rest.result.0.now _ c.args.buffer.now c.split_at_mut-rest.result.1.now _ parts.value parts.front_len c.frame.ensures.bytes (omega (arith, c.frame.ensures.size, c.frame.ensures.same, parts.back_len, c.requires.room)))
