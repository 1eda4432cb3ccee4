use Rattle.std.proofs.Common.{◌≡◌, ◌+◌, ◌∙◌, ℕ, subst}
use Rattle.process_tree.specs.Conflicts.{do_conflict}
use Rattle.process_tree.specs.Order.{Each}
use Rattle.hold_tables.specs.Counts.{pairs_by}
use Rattle.hold_tables.specs.Tables.{OpenProcess}
use Rattle.hold_tables.specs.Walks.{IsPlacedIf, step_of, steps_under_way}
use Rattle.hold_tables.proofs.Counted.{by_steps_first, counted_none, counted_on, none_by_steps, room_first, room_later}
use Rattle.hold_tables.proofs.counting.count_steps.Goals as goal

pub count_step-requires-clause-room : goal.count_step-requires-clause-room
count_step-requires-clause-room c =
    let table = do_conflict c.args.conflicts.now in
    let is = c.in-Some.ensures.cases.0 in
    room_first c.args.rows.now (pairs_by table c.args.x (step_of c.running.result)) (pairs_by table c.args.x (steps_under_way c.in-Some.after.now)) (pairs_by table c.args.x (steps_under_way c.rows.rest.now))
    (λ i k. by_steps_first table c.args.x c.rows.rest.now c.in-Some.row.now c.in-Some.after.now c.running.result is c.running.ensures i k) c.rows.counts c.rows.invariant.2

pub rows-preserved : goal.rows-preserved
rows-preserved c =
    let table = do_conflict c.args.conflicts.now in
    let x = c.args.x in
    let after = c.in-Some.after.now in
    let is = c.in-Some.ensures.cases.0 in
    let before = c.rows.invariant in
    let first = pairs_by table x (step_of c.running.result) in
    let second = pairs_by table x (steps_under_way after) in
    let all = pairs_by table x (steps_under_way c.rows.rest.now) in
    let split : (i k : ℕ) → all i k ≡ first i k + second i k = λ i k. by_steps_first table x c.rows.rest.now c.in-Some.row.now after c.running.result is c.running.ensures i k in (
      (c.count_step.ensures.count ∙ before.0.0, before.0.1, before.0.2),
      (subst (Each (λ (r : OpenProcess). IsPlacedIf c.args.conflicts.now c.args.rows.now r.running)) is before.1).1,
      room_later c.args.rows.now first second all split c.rows.counts c.count_step.new.counts before.2 c.count_step.ensures,
      λ new more. before.3 new (counted_on c.args.rows.now first second all split c.rows.counts c.count_step.new.counts new c.count_step.ensures more),
    )

pub returns : goal.returns
returns c = c.rows.invariant.3 c.rows.counts (counted_none c.args.rows.now _ c.rows.counts (none_by_steps (do_conflict c.args.conflicts.now) c.args.x c.rows.rest.now c.in_default.ensures.cases))
