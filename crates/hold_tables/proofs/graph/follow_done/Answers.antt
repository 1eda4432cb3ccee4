use Rattle.hold_tables.proofs.Reaching.{placed_running}
use Rattle.hold_tables.proofs.Tidy.{tables}
use Rattle.hold_tables.proofs.graph.follow_done.Goals as goal

pub follow_steps-requires-clause-later : goal.follow_steps-requires-clause-later
follow_steps-requires-clause-later c = placed_running (tables c.args.conflicts.now c.args.net.now c.args.rows.now) c.requires.tidy
