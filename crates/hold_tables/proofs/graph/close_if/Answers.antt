use Rattle.hold_tables.proofs.Closed.{closed_tells}
use Rattle.hold_tables.proofs.Tidy.{tables}
use Rattle.hold_tables.proofs.graph.close_if.Goals as goal

pub returns-then-gone : goal.returns-then-gone
returns-then-gone c =
    let t = tables c.args.conflicts.now c.args.net.now c.args.rows.now in
    record { tell = (c.requires.counts, closed_tells t c.requires.tidy c.args.graph.now.counts c.close_walks.new.walks c.requires.counts c.close_walks.ensures) }
