use Rattle.std.proofs.Common.{◌≡◌, ◌∙◌, sym, ap, arith}
use Rattle.process_tree.specs.Conflicts.{do_conflict}
use Rattle.hold_tables.specs.Counts.{count_at}
use Rattle.hold_tables.specs.Places.{place_of}
use Rattle.hold_tables.proofs.Counted.{counted_none, one_self, pair_counted, pair_is}
use Rattle.hold_tables.proofs.Pairs.{no_conflict}
use Rattle.hold_tables.proofs.counting.count_pair.Goals as goal

pub returns-else-between : goal.returns-else-between
returns-else-between c = counted_none c.args.rows.now _ c.args.counts.now (λ i k. no_conflict (do_conflict c.args.conflicts.now) i k c.args.x c.args.y (sym c.between.ensures ∙ c.if-between.false))

pub more-requires-clause-room : goal.more-requires-clause-room
more-requires-clause-room c =
    let rows = c.args.rows.now in
    let p = c.args.x.process in
    let q = c.args.y.process in
    let is = sym c.between.ensures ∙ c.if-between.true in
    let most = c.requires.room p q c.requires.first.1 c.requires.later.1 in
    let one = pair_is (do_conflict c.args.conflicts.now) c.args.x c.args.y is p q ∙ one_self p q in
    let same : count_at c.args.counts.now c.place_of-from.result c.place_of-to.result ≡ count_at c.args.counts.now (place_of p rows) (place_of q rows) =
    ap (λ a. count_at c.args.counts.now a c.place_of-to.result) c.place_of-from.ensures.place ∙ ap (count_at c.args.counts.now (place_of p rows)) c.place_of-to.ensures.place in
    omega (arith, most, one, same)

pub returns-then-between : goal.returns-then-between
returns-then-between c =
    pair_counted (do_conflict c.args.conflicts.now) c.args.rows.now c.args.x c.args.y c.place_of-from.result c.place_of-to.result c.args.counts.now c.more.new.self c.requires.rows
    c.requires.first.1 c.requires.later.1 c.place_of-from.ensures.place c.place_of-to.ensures.place (sym c.between.ensures ∙ c.if-between.true) c.more.ensures.others c.more.ensures.own
