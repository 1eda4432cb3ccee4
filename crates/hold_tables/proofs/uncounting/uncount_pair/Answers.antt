use Rattle.std.proofs.Common.{◌≡◌, ◌<◌, ◌+◌, ◌∙◌, sym, subst, ap, arith}
use Rattle.std.specs.Prelude.{nat_eq}
use Rattle.process_tree.specs.Conflicts.{do_conflict}
use Rattle.hold_tables.specs.Counts.{count_at}
use Rattle.bit_rows.specs.Cells.{IsOneRow, one_if}
use Rattle.hold_tables.specs.Places.{place_of}
use Rattle.hold_tables.proofs.Counted.{one_pair, one_self, pair_is, uncounted_none, uncounted_one, uncounted_same}
use Rattle.hold_tables.proofs.Pairs.{no_conflict}
use Rattle.hold_tables.proofs.uncounting.uncount_pair.Goals as goal

pub returns-else-between : goal.returns-else-between
returns-else-between c = uncounted_none c.args.rows.now _ c.args.counts.now (λ i k. no_conflict (do_conflict c.args.conflicts.now) i k c.args.x c.args.y (sym c.between.ensures ∙ c.if-between.false))

pub less-requires-clause-some : goal.less-requires-clause-some
less-requires-clause-some c =
    let rows = c.args.rows.now in
    let p = c.args.x.process in
    let q = c.args.y.process in
    let is = sym c.between.ensures ∙ c.if-between.true in
    let least = c.requires.among p q c.requires.first.1 c.requires.later.1 in
    let one = pair_is (do_conflict c.args.conflicts.now) c.args.x c.args.y is p q ∙ one_self p q in
    let same : count_at c.args.counts.now c.place_of-from.result c.place_of-to.result ≡ count_at c.args.counts.now (place_of p rows) (place_of q rows) =
    ap (λ a. count_at c.args.counts.now a c.place_of-to.result) c.place_of-from.ensures.place ∙ ap (count_at c.args.counts.now (place_of p rows)) c.place_of-to.ensures.place in
    omega (arith, least, one, same)

pub returns-then-between : goal.returns-then-between
returns-then-between c =
    let rows = c.args.rows.now in
    let counts = c.args.counts.now in
    let p = c.args.x.process in
    let q = c.args.y.process in
    let new = c.less.new.self in
    let gone = c.less.result in
    let a = c.place_of-from.ensures.place in
    let b = c.place_of-to.ensures.place in
    uncounted_same rows (one_pair p q) _ gone counts new (λ i k. sym (pair_is (do_conflict c.args.conflicts.now) c.args.x c.args.y (sym c.between.ensures ∙ c.if-between.true) i k))
    (uncounted_one rows p q counts new c.requires.rows c.requires.first.1 c.requires.later.1 (subst (λ at. IsOneRow at counts new) a c.less.ensures.others) gone
    (λ d. subst (λ at. count_at counts at d ≡ count_at new at d + one_if (nat_eq (place_of q rows) d)) a
    (subst (λ at. count_at counts c.place_of-from.result d ≡ count_at new c.place_of-from.result d + one_if (nat_eq at d)) b (c.less.ensures.own d)))
    (λ no. subst (λ at. 0 < count_at new at (place_of q rows)) a (subst (λ at. 0 < count_at new c.place_of-from.result at) b (c.less.ensures.more no))))
