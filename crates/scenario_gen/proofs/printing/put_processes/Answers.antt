use Rattle.std.proofs.Common.{arith}
use Rattle.scenario_gen.proofs.Drawing.{drawn_on, printed_on}
use Rattle.scenario_gen.proofs.printing.put_processes.Goals as goal

pub loop-printed-preserved : goal.loop-printed-preserved
loop-printed-preserved c =
    let number = c.args.number in
    let k = c.loop-printed.printed in
    let now = c.loop-printed.invariant.2 in (
      omega arith,
      printed_on number k _ c.draws.result _ _ _ now c.draws.ensures.draws c.loop-printed.invariant.1 c.in_ok-put_process.ensures,
      drawn_on number k _ _ now c.draws.ensures.number,
    )
