use Rattle.std.proofs.Common.{◌≡◌, ◌+◌, ◌∙◌, ℕ, List, ◌∷◌, [], ap, subst}
use Rattle.process_tree.specs.declared.entry.Entry.{Entry}
use Rattle.process_tree.specs.Conflicts.{do_conflict}
use Rattle.process_tree.specs.Order.{Each}
use Rattle.hold_tables.specs.Counts.{pair, pairs_to}
use Rattle.hold_tables.specs.Walks.{IsPlaced, arrows_by, arrows_to}
use Rattle.hold_tables.proofs.Arrows.{none_to}
use Rattle.hold_tables.proofs.Counted.{counted_none, counted_on, none_to_one, room_first, room_later}
use Rattle.hold_tables.proofs.Extended.{extended_on}
use Rattle.hold_tables.proofs.extending.join_to.Goals as goal

pub join_pair-requires-clause-room : goal.join_pair-requires-clause-room
join_pair-requires-clause-room c =
    let table = do_conflict c.args.conflicts.now in
    let is = c.in-Some.ensures.cases.0 in
    room_first c.args.rows.now (pair table c.in-Some.x.now c.args.e) (pairs_to table c.in-Some.after.now c.args.e) (pairs_to table c.entries.rest.now c.args.e)
    (λ i k. ap (λ (es : List Entry). pairs_to table es c.args.e i k) is) c.entries.graph.counts c.entries.invariant.room

pub entries-preserved : goal.entries-preserved
entries-preserved c =
    let table = do_conflict c.args.conflicts.now in
    let rows = c.args.rows.now in
    let e = c.args.e in
    let x = c.in-Some.x.now in
    let after = c.in-Some.after.now in
    let rest = c.entries.rest.now in
    let is = c.in-Some.ensures.cases.0 in
    let split : (i k : ℕ) → pairs_to table rest e i k ≡ pair table x e i k + pairs_to table after e i k = λ i k. ap (λ (es : List Entry). pairs_to table es e i k) is in
    let before = c.entries.invariant in
    let counts = c.entries.graph.counts in
    let walks = c.entries.graph.walks in
    let mid = c.join_pair.new.graph in
    record {
      counts = (c.join_pair.ensures.counted.count ∙ before.counts.0, before.counts.1, before.counts.2);
      walks = (c.join_pair.ensures.extended.count ∙ before.walks.0, before.walks.1, before.walks.2);
      entries = (subst (Each (IsPlaced c.args.conflicts.now rows)) is before.entries).1;
      room = room_later rows (pair table x e) (pairs_to table after e) (pairs_to table rest e) split counts mid.counts before.room c.join_pair.ensures.counted;
      counted = λ new more. before.counted new (counted_on rows (pair table x e) (pairs_to table after e) (pairs_to table rest e) split counts mid.counts new c.join_pair.ensures.counted more);
      extended = λ new more. before.extended new (extended_on rows (arrows_by table x (e ∷ [])) (arrows_to table after e) (arrows_to table rest e) walks mid.walks new
          (λ i k. ap (λ (es : List Entry). arrows_to table es e i k) is) c.join_pair.ensures.extended more);
    }

pub returns-clause-counted : goal.returns-clause-counted
returns-clause-counted c = c.entries.invariant.counted c.entries.graph.counts (counted_none c.args.rows.now _ c.entries.graph.counts (none_to_one (do_conflict c.args.conflicts.now) c.entries.rest.now c.args.e c.in_default.ensures.cases))

pub returns-clause-extended : goal.returns-clause-extended
returns-clause-extended c = c.entries.invariant.extended c.entries.graph.walks (none_to c.args.rows.now (do_conflict c.args.conflicts.now) c.entries.rest.now c.args.e c.entries.graph.walks c.in_default.ensures.cases)
