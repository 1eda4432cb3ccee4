use Rattle.hold_tables.proofs.BesideRows.{clear_ops}
use Rattle.hold_tables.proofs.operations.is_clear_of.Goals as goal

pub returns : goal.returns
returns c = λ ops keeps is. clear_ops c.args.c.now c.args.op ops c.args.bits.now keeps (c.is_clear.ensures is)
