use Rattle.std.proofs.Common.{◌∙◌, ◌<◌, ◌++◌, length, ap, sym, subst, arith}
use Rattle.process_tree.specs.Conflicts.{operations_in}
use Rattle.process_tree.specs.Order.{Each}
use Rattle.process_tree.specs.Shape.{shape_of}
use Rattle.process_tree.proofs.Trees.{few_steps, tree_laid_out}
use Rattle.hold_tables.specs.Kept.{AreKnown}
use Rattle.hold_tables.specs.Tables.{OpenProcess, Tables, is_open, kept_of}
use Rattle.core_state.specs.OpenTables.{planned_behind}
use Rattle.core_state.proofs.LastSteps.{planned_few, planned_known}
use Rattle.core_state.proofs.RowChanges.{fixed_open, fixed_row}
use Rattle.core_state.proofs.effects.fix_and_reserve.Goals as goal

pub add_owed-requires-clause-few : goal.add_owed-requires-clause-few
add_owed-requires-clause-few c =
    let few = few_steps c.args.plan.now.tree c.requires.good in
    let fits = planned_few c.args.plan.now c.args.step in
    let none = ap length c.new-planned.ensures in
    omega arith

pub reserve-requires-clause-open : goal.reserve-requires-clause-open
reserve-requires-clause-open c = ap (λ (t : Tables). is_open t c.args.process) c.fix.ensures ∙ fixed_open c.args.process c.args.holds.now c.requires.held

pub reserve-requires-clause-room : goal.reserve-requires-clause-room
reserve-requires-clause-room c =
    let steps = ap (λ (t : Tables). (kept_of t c.args.process).steps) c.fix.ensures ∙ (ap (λ (r : OpenProcess). r.steps) (fixed_row c.args.process c.args.holds.now c.requires.held) ∙ c.requires.steps) in
    let few = planned_few c.args.plan.now c.args.step in
    let many = ap length (c.as_slice.ensures.value ∙ (c.add_owed.ensures ∙ ap (λ ps. ps ++ planned_behind c.args.plan.now c.args.step) c.new-planned.ensures)) in
    omega arith

pub reserve-requires-clause-known : goal.reserve-requires-clause-known
reserve-requires-clause-known c =
    let p = c.args.plan.now in
    let within = subst (λ n. Each (Each (λ b. b < n)) (shape_of p.tree).paths) (sym c.requires.operations) (tree_laid_out p.tree c.requires.good).within in
    subst (AreKnown c.fix.new.self.conflicts) (sym (c.as_slice.ensures.value ∙ (c.add_owed.ensures ∙ ap (λ ps. ps ++ planned_behind p c.args.step) c.new-planned.ensures)))
    (subst (λ (t : Tables). AreKnown t.conflicts (planned_behind p c.args.step)) (sym c.fix.ensures) (planned_known p (operations_in c.args.holds.now.conflicts) c.args.step within c.requires.known))
