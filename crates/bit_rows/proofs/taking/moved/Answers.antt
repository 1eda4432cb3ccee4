use Rattle.bit_rows.proofs.TakenOut.{moved_up}
use Rattle.bit_rows.proofs.taking.moved.Goals as goal

pub returns-clause-own : goal.returns-clause-own
returns-clause-own c = moved_up c.args.word c.args.next
