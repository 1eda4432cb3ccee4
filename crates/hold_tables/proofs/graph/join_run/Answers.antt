use Rattle.process_tree.specs.Conflicts.{do_conflict}
use Rattle.hold_tables.specs.Counts.{pairs_to}
use Rattle.hold_tables.proofs.Counted.{but_counted}
use Rattle.hold_tables.proofs.PairBounds.{room_for_more}
use Rattle.hold_tables.proofs.Tidy.{tables}
use Rattle.hold_tables.proofs.graph.join_run.Goals as goal

pub join_to-requires-clause-room : goal.join_to-requires-clause-room
join_to-requires-clause-room c =
    let t = tables c.args.conflicts.now c.args.net.now c.args.rows.now in
    room_for_more t c.requires.tidy (pairs_to (do_conflict c.args.conflicts.now) c.args.net.now c.args.e) c.args.graph.now.counts c.requires.but.0

pub returns : goal.returns
returns c =
    let t = tables c.args.conflicts.now c.args.net.now c.args.rows.now in
    let added = pairs_to (do_conflict c.args.conflicts.now) c.args.net.now c.args.e in
    record {
      tell = (
        but_counted t added c.args.graph.now.counts c.join_to.new.graph.counts c.requires.but.0 c.join_to.ensures.counted,
        c.requires.but.1 c.join_to.new.graph.walks c.join_to.ensures.extended,
      );
    }
