use Rattle.std.proofs.Common.{◌≡◌, ◌∙◌, sym, subst, ap, arith}
use Rattle.process_tree.specs.Conflicts.{do_conflict}
use Rattle.hold_tables.specs.Counts.{count_at}
use Rattle.hold_tables.specs.Places.{place_of}
use Rattle.bit_rows.specs.Cells.{IsJoined}
use Rattle.hold_tables.proofs.Arrows.{arrow_alone}
use Rattle.hold_tables.proofs.Counted.{counted_none, one_self, pair_counted, pair_is}
use Rattle.hold_tables.proofs.Extended.{extended_one, extended_same, one, place_within, told_joined}
use Rattle.hold_tables.proofs.Pairs.{no_conflict}
use Rattle.hold_tables.proofs.extending.join_pair.Goals as goal

pub more-requires-clause-room : goal.more-requires-clause-room
more-requires-clause-room c =
    let rows = c.args.rows.now in
    let counts = c.args.graph.now.counts in
    let p = c.args.x.process in
    let q = c.args.e.process in
    let is = sym c.between.ensures ∙ c.if-between.true in
    let most = c.requires.room p q c.requires.first.1 c.requires.later.1 in
    let single = pair_is (do_conflict c.args.conflicts.now) c.args.x c.args.e is p q ∙ one_self p q in
    let same : count_at counts c.place_of-from.result c.args.to ≡ count_at counts (place_of p rows) (place_of q rows) =
    ap (λ a. count_at counts a c.args.to) c.place_of-from.ensures.place ∙ ap (count_at counts (place_of p rows)) c.requires.to in
    omega (arith, most, single, same)

pub more-requires-clause-column : goal.more-requires-clause-column
more-requires-clause-column c = let l = place_within c.args.rows.now c.args.e.process c.requires.later.1 in let most = c.requires.counts.1 in let to = c.requires.to in omega (arith, l, most, to)

pub has-requires-clause-column : goal.has-requires-clause-column
has-requires-clause-column c = let l = place_within c.args.rows.now c.args.e.process c.requires.later.1 in let most = c.requires.counts.1 in let to = c.requires.to in omega (arith, l, most, to)

pub join-requires-clause-to : goal.join-requires-clause-to
join-requires-clause-to c = let l = place_within c.args.rows.now c.args.e.process c.requires.later.1 in let are = c.requires.walks.0 in let to = c.requires.to in omega (arith, l, are, to)

pub returns-then-not-has-clause-counted : goal.returns-then-not-has-clause-counted
returns-then-not-has-clause-counted c =
    pair_counted (do_conflict c.args.conflicts.now) c.args.rows.now c.args.x c.args.e c.place_of-from.result c.args.to c.args.graph.now.counts c.more.new.self c.requires.counts
    c.requires.first.1 c.requires.later.1 c.place_of-from.ensures.place c.requires.to (sym c.between.ensures ∙ c.if-between.true) c.more.ensures.others c.more.ensures.own

pub returns-else-not-has-clause-counted : goal.returns-else-not-has-clause-counted
returns-else-not-has-clause-counted c =
    pair_counted (do_conflict c.args.conflicts.now) c.args.rows.now c.args.x c.args.e c.place_of-from.result c.args.to c.args.graph.now.counts c.more.new.self c.requires.counts
    c.requires.first.1 c.requires.later.1 c.place_of-from.ensures.place c.requires.to (sym c.between.ensures ∙ c.if-between.true) c.more.ensures.others c.more.ensures.own

pub returns-else-between-clause-counted : goal.returns-else-between-clause-counted
returns-else-between-clause-counted c = counted_none c.args.rows.now _ c.args.graph.now.counts (λ i k. no_conflict (do_conflict c.args.conflicts.now) i k c.args.x c.args.e (sym c.between.ensures ∙ c.if-between.false))

pub returns-then-not-has-clause-extended : goal.returns-then-not-has-clause-extended
returns-then-not-has-clause-extended c =
    let rows = c.args.rows.now in
    let p = c.args.x.process in
    let q = c.args.e.process in
    let marks = c.args.graph.now.walks in
    let joined = subst (λ a. IsJoined a (place_of q rows) marks c.join.new.self) c.place_of-from.ensures.place (subst (λ b. IsJoined c.place_of-from.result b marks c.join.new.self) c.requires.to c.join.ensures) in
    extended_same rows (one p q) _ marks c.join.new.self (arrow_alone (do_conflict c.args.conflicts.now) c.args.x c.args.e (sym c.between.ensures ∙ c.if-between.true))
    (extended_one rows p q marks c.join.new.self c.requires.first.1 c.requires.later.1 (told_joined rows p q marks c.join.new.self c.requires.walks c.requires.first.1 c.requires.later.1 joined) joined.0)
