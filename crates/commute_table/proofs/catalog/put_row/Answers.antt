use Rattle.std.proofs.Common.{arith}
use Rattle.commute_table.proofs.Writing.{pair_written, row_written}
use Rattle.commute_table.proofs.catalog.put_row.Goals as goal

pub loop-later-preserved : goal.loop-later-preserved
loop-later-preserved c =
    let next = pair_written c.args.conflicts.now c.args.first c.loop-later.later c.loop-later.out.items c.args.out.now.items c.requires.table (omega arith) (omega (arith, c.requires.count)) c.loop-later.invariant in
    rw (c.in_ok-push.ensures.items, c.cell_byte.ensures, c.mode.ensures.mode) next

pub returns : goal.returns
returns c = row_written c.args.conflicts.now c.args.first c.loop-later.later c.loop-later.out.items c.args.out.now.items c.requires.table (omega (arith, c.requires.count)) (omega (arith, c.requires.count)) c.loop-later.invariant
