use Rattle.std.proofs.Common.{◌≤◌, ◌++◌, ◌∷◌, sym, subst}
use Rattle.hold_tables.specs.Counts.{counted}
use Rattle.hold_tables.specs.Operations.{ops_of}
use Rattle.hold_tables.specs.Walks.{steps_under_way}
use Rattle.hold_tables.proofs.Counted.{uncounted_same}
use Rattle.hold_tables.proofs.HeldOps.{none_conflicts}
use Rattle.hold_tables.proofs.LastPairs.{quiet_entry}
use Rattle.hold_tables.proofs.uncounting.uncount_marked.Goals as goal

pub uncount_steps-requires-clause-among : goal.uncount_steps-requires-clause-among
uncount_steps-requires-clause-among c i k here there =
    let es = c.args.front.now ++ c.args.x ∷ c.args.back.now in
    let none = none_conflicts c.args.conflicts.now c.args.x es (c.is_clear_of.ensures (ops_of es) c.requires.marks c.if-is_clear_of.true) in
    subst (λ n. n ≤ counted c.args.rows.now c.args.counts.now i k) (quiet_entry c.args.conflicts.now (steps_under_way c.args.rows.now) c.args.front.now c.args.x c.args.back.now none i k) (c.requires.among i k here there)

pub returns-then-is_clear_of : goal.returns-then-is_clear_of
returns-then-is_clear_of c =
    let es = c.args.front.now ++ c.args.x ∷ c.args.back.now in
    let none = none_conflicts c.args.conflicts.now c.args.x es (c.is_clear_of.ensures (ops_of es) c.requires.marks c.if-is_clear_of.true) in
    uncounted_same c.args.rows.now _ _ c.uncount_steps.result c.args.counts.now c.uncount_steps.new.counts
    (λ i k. sym (quiet_entry c.args.conflicts.now (steps_under_way c.args.rows.now) c.args.front.now c.args.x c.args.back.now none i k)) c.uncount_steps.ensures
