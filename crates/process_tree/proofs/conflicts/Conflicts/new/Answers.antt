use Rattle.std.proofs.Common.{◌≡◌, ◌-◌, rules}
use Rattle.std.specs.Prelude.{replicate}
use Rattle.process_tree.specs.declared.conflicts.Mode.TheVariants.{Never}
use Rattle.process_tree.specs.Conflicts.{no_conflicts}
use Rattle.process_tree.proofs.Tables.{row_stands, all_stand, is_table-no_conflicts, mode_of-no_conflicts}
use Rattle.process_tree.proofs.conflicts.Conflicts.new.Goals as goal

pub loop-first-preserved : goal.loop-first-preserved
loop-first-preserved c =
    let cells : c.in_ok-vec.field-0.items ≡ replicate (c.args.ops - c.loop-first.first) Never = search rules in
    rw (c.in_ok-push.ensures.items, cells) (row_stands c.loop-first.rows.items c.args.ops c.loop-first.first c.loop-first-test.true c.loop-first.invariant)

pub invariant_of-result : goal.invariant_of-result
invariant_of-result c =
    let whole : c.loop-first.rows.items ≡ no_conflicts c.args.ops = all_stand c.loop-first.rows.items c.args.ops c.loop-first.first c.loop-first-test.false c.loop-first.invariant in
    rw whole (is_table-no_conflicts c.args.ops)

pub returns-clause-table : goal.returns-clause-table
returns-clause-table c = all_stand c.loop-first.rows.items c.args.ops c.loop-first.first c.loop-first-test.false c.loop-first.invariant

pub returns-clause-none : goal.returns-clause-none
returns-clause-none c =
    let whole = all_stand c.loop-first.rows.items c.args.ops c.loop-first.first c.loop-first-test.false c.loop-first.invariant in
    λ a b. rw whole (mode_of-no_conflicts c.args.ops a b)
