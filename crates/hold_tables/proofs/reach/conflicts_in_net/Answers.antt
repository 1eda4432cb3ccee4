use Rattle.std.proofs.Common.{◌∙◌, ap, not, sym}
use Rattle.hold_tables.specs.Operations.{ops_of}
use Rattle.hold_tables.proofs.HeldOps.{none_conflicts}
use Rattle.hold_tables.proofs.reach.conflicts_in_net.Goals as goal

pub returns-else-not-is_clear_of : goal.returns-else-not-is_clear_of
returns-else-not-is_clear_of c =
    ap not c.if-not-is_clear_of.false ∙ sym (none_conflicts c.args.conflicts.now c.args.e c.args.net.now (c.is_clear_of.ensures (ops_of c.args.net.now) c.requires.marks c.if-not-is_clear_of.false))
