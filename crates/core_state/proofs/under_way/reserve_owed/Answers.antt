use Rattle.std.proofs.Common.{◌∙◌, ◌<◌, ◌++◌, length, ap, sym, subst, arith}
use Rattle.process_tree.specs.Conflicts.{operations_in}
use Rattle.process_tree.specs.Order.{Each}
use Rattle.process_tree.specs.Shape.{shape_of}
use Rattle.process_tree.proofs.Every.{Each-append}
use Rattle.process_tree.proofs.Trees.{few_steps, tree_laid_out}
use Rattle.hold_tables.specs.Kept.{AreKnown}
use Rattle.hold_tables.specs.Tables.{kept_of}
use Rattle.core_state.specs.OpenTables.{planned_behind}
use Rattle.core_state.proofs.LastSteps.{planned_known}
use Rattle.core_state.proofs.under_way.reserve_owed.Goals as goal

pub reserved_steps-planned-requires-clause-few : goal.reserved_steps-planned-requires-clause-few
reserved_steps-planned-requires-clause-few c =
    let few = few_steps c.args.plan.now.tree c.requires.good in
    let fits = c.requires.reserved.0 in
    omega arith

pub add_owed-requires-clause-few : goal.add_owed-requires-clause-few
add_owed-requires-clause-few c =
    let few = few_steps c.args.plan.now.tree c.requires.good in
    let fits = c.requires.reserved.0 in
    let same = ap length c.reserved_steps-planned.ensures in
    omega arith

pub reserve-requires-clause-known : goal.reserve-requires-clause-known
reserve-requires-clause-known c =
    let holds = c.args.holds.now in
    let p = c.args.plan.now in
    let within = subst (λ n. Each (Each (λ b. b < n)) (shape_of p.tree).paths) (sym c.requires.plan.operations) (tree_laid_out p.tree c.requires.good).within in
    let reserved = (kept_of holds c.args.process).reserved in
    subst (AreKnown holds.conflicts) (sym (c.as_slice.ensures.value ∙ (c.add_owed.ensures ∙ ap (λ xs. xs ++ planned_behind p c.args.step) c.reserved_steps-planned.ensures)))
    (Each-append _ reserved (planned_behind p c.args.step) c.requires.reserved.1 (planned_known p (operations_in holds.conflicts) c.args.step within c.requires.plan.known))
