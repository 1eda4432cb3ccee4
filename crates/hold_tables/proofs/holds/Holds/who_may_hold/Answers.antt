use Rattle.hold_tables.proofs.Tidy.{tables}
use Rattle.hold_tables.proofs.Told.{has_rows, known_rows, who_told}
use Rattle.hold_tables.proofs.holds.Holds.who_may_hold.Goals as goal

pub who_may_hold-requires-clause-rows : goal.who_may_hold-requires-clause-rows
who_may_hold-requires-clause-rows c = has_rows c.self.inside.net.items c.self.inside.rows.items c.self.inside.beside c.self.invariant.2

pub who_may_hold-requires-clause-known : goal.who_may_hold-requires-clause-known
who_may_hold-requires-clause-known c = known_rows (tables c.self.inside.conflicts c.self.inside.net.items c.self.inside.rows.items) c.self.invariant.0.0 c.self.inside.beside c.self.invariant.2

pub returns : goal.returns
returns c = who_told (tables c.self.inside.conflicts c.self.inside.net.items c.self.inside.rows.items) c.self.inside.beside c.self.invariant.2 c.args.op c.who_may_hold.result c.who_may_hold.ensures c.args.self.now c.self.view_is
