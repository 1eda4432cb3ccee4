use Rattle.std.proofs.Common.{◌≡◌, ◌+◌, ◌∙◌, ℕ, List, false, ◌||◌, ap, subst}
use Rattle.process_tree.specs.declared.entry.Entry.{Entry}
use Rattle.process_tree.specs.Conflicts.{do_conflict}
use Rattle.process_tree.specs.Order.{Each}
use Rattle.hold_tables.specs.Counts.{pair, pairs_to}
use Rattle.hold_tables.specs.Walks.{IsPlaced}
use Rattle.hold_tables.proofs.Counted.{among_first, among_later, gone_all, gone_later, none_to_one, uncounted_none, uncounted_on}
use Rattle.hold_tables.proofs.uncounting.uncount_to.Goals as goal

pub uncount_pair-requires-clause-among : goal.uncount_pair-requires-clause-among
uncount_pair-requires-clause-among c =
    let table = do_conflict c.args.conflicts.now in
    let is = c.in-Some.ensures.cases.0 in
    among_first c.args.rows.now (pair table c.in-Some.x.now c.args.e) (pairs_to table c.in-Some.after.now c.args.e) (pairs_to table c.entries.rest.now c.args.e)
    (λ i k. ap (λ (es : List Entry). pairs_to table es c.args.e i k) is) c.entries.counts c.entries.invariant.2

pub entries-preserved : goal.entries-preserved
entries-preserved c =
    let table = do_conflict c.args.conflicts.now in
    let is = c.in-Some.ensures.cases.0 in
    let first = pair table c.in-Some.x.now c.args.e in
    let second = pairs_to table c.in-Some.after.now c.args.e in
    let all = pairs_to table c.entries.rest.now c.args.e in
    let split : (i k : ℕ) → all i k ≡ first i k + second i k = λ i k. ap (λ (es : List Entry). pairs_to table es c.args.e i k) is in
    let gone = c.uncount_pair.result in
    let before = c.entries.invariant in (
      (c.uncount_pair.ensures.count ∙ before.0.0, before.0.1, before.0.2),
      (subst (Each (IsPlaced c.args.conflicts.now c.args.rows.now)) is before.1).1,
      among_later c.args.rows.now first second all split gone c.entries.counts c.uncount_pair.new.counts before.2 c.uncount_pair.ensures,
      λ later new more. gone_later c.args.rows.now (pairs_to table c.args.entries.now c.args.e) c.entries.gone gone later c.either-gone.result c.args.counts.now new c.either-gone.ensures
          (before.3 (gone || later) new (uncounted_on c.args.rows.now first second all split gone later c.entries.counts c.uncount_pair.new.counts new c.uncount_pair.ensures more)),
    )

pub returns : goal.returns
returns c =
    let table = do_conflict c.args.conflicts.now in
    gone_all c.args.rows.now (pairs_to table c.args.entries.now c.args.e) c.entries.gone c.args.counts.now c.entries.counts
    (c.entries.invariant.3 false c.entries.counts (uncounted_none c.args.rows.now _ c.entries.counts (none_to_one table c.entries.rest.now c.args.e c.in_default.ensures.cases)))
