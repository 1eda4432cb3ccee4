use Rattle.process_tree.specs.Conflicts.{do_conflict}
use Rattle.hold_tables.specs.Counts.{pairs_by}
use Rattle.hold_tables.specs.Walks.{steps_under_way}
use Rattle.hold_tables.proofs.Counted.{but_counted}
use Rattle.hold_tables.proofs.PairBounds.{room_for_more}
use Rattle.hold_tables.proofs.Reaching.{placed_running}
use Rattle.hold_tables.proofs.Tidy.{tables}
use Rattle.hold_tables.proofs.graph.count_done.Goals as goal

pub count_steps-requires-clause-later : goal.count_steps-requires-clause-later
count_steps-requires-clause-later c = placed_running (tables c.args.conflicts.now c.args.net.now c.args.rows.now) c.requires.tidy

pub count_steps-requires-clause-room : goal.count_steps-requires-clause-room
count_steps-requires-clause-room c =
    let t = tables c.args.conflicts.now c.args.net.now c.args.rows.now in
    room_for_more t c.requires.tidy (pairs_by (do_conflict c.args.conflicts.now) c.args.e (steps_under_way c.args.rows.now)) c.args.counts.now c.requires.but

pub returns : goal.returns
returns c =
    let t = tables c.args.conflicts.now c.args.net.now c.args.rows.now in
    let added = pairs_by (do_conflict c.args.conflicts.now) c.args.e (steps_under_way c.args.rows.now) in
    record { tell = but_counted t added c.args.counts.now c.count_steps.new.counts c.requires.but c.count_steps.ensures }
