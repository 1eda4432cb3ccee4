use Rattle.std.proofs.Common.{◌≡◌, ◌∙◌, ◌<◌, true, false, length, if◌then◌else◌, ap, sym, subst, arith}
use Rattle.std.specs.Option.{is_some}
use Rattle.process_tree.specs.Blocks.{outline}
use Rattle.process_tree.specs.Conflicts.{operations_in}
use Rattle.process_tree.specs.Order.{Each}
use Rattle.process_tree.proofs.Trees.{tree_laid_out}
use Rattle.hold_tables.specs.Kept.{AreKnown}
use Rattle.process_tree.specs.Shape.{commits, shape_of}
use Rattle.hold_tables.specs.Tables.{OpenProcess, Tables, is_open, kept_of}
use Rattle.hold_tables.specs.Changes.{all_fixed, changed, run, took_effect, undoes, with_reserved}
use Rattle.core_state.specs.OpenTables.{planned_behind}
use Rattle.core_state.proofs.LastSteps.{planned_few, planned_known}
use Rattle.core_state.proofs.RowChanges.{effect_open, effect_row, fixed_open, fixed_row, run_open, run_row}
use Rattle.core_state.proofs.tables.stand.Goals as goal

pub take_effect-requires-clause-open : goal.take_effect-requires-clause-open
take_effect-requires-clause-open c = ap (λ (t : Tables). is_open t c.args.e.process) c.run.ensures ∙ run_open c.args.e c.args.holds.now c.requires.open

pub take_effect-requires-clause-running : goal.take_effect-requires-clause-running
take_effect-requires-clause-running c =
    ap (λ (t : Tables). is_some (kept_of t c.args.e.process).running) c.run.ensures
    ∙ ap (λ (r : OpenProcess). is_some r.running) (run_row c.args.e c.args.holds.now c.requires.open)

pub fix-requires-clause-open : goal.fix-requires-clause-open
fix-requires-clause-open c =
    let e = c.args.e in
    let is : c.take_effect.new.self ≡ took_effect e.process (run e c.args.holds.now) = c.take_effect.ensures ∙ ap (took_effect e.process) c.run.ensures in
    ap (λ (t : Tables). is_open t e.process) is ∙ effect_open e.process (run e c.args.holds.now) (run_open e c.args.holds.now c.requires.open)

pub fix-requires-clause-forward : goal.fix-requires-clause-forward
fix-requires-clause-forward c =
    let e = c.args.e in
    let is : c.take_effect.new.self ≡ took_effect e.process (run e c.args.holds.now) = c.take_effect.ensures ∙ ap (took_effect e.process) c.run.ensures in
    ap (λ (t : Tables). undoes (kept_of t e.process).running) is
    ∙ ap (λ (r : OpenProcess). undoes r.running) (effect_row e.process (run e c.args.holds.now) (run_open e c.args.holds.now c.requires.open))

pub reserve-requires-clause-open : goal.reserve-requires-clause-open
reserve-requires-clause-open c =
    let e = c.args.e in
    let is : c.take_effect.new.self ≡ took_effect e.process (run e c.args.holds.now) = c.take_effect.ensures ∙ ap (took_effect e.process) c.run.ensures in
    ap (λ (t : Tables). is_open t e.process) (c.fix.ensures ∙ ap (all_fixed e.process) is)
    ∙ fixed_open e.process (took_effect e.process (run e c.args.holds.now)) (effect_open e.process (run e c.args.holds.now) (run_open e c.args.holds.now c.requires.open))

pub reserve-requires-clause-room : goal.reserve-requires-clause-room
reserve-requires-clause-room c =
    let e = c.args.e in
    let old = c.args.holds.now in
    let is : c.take_effect.new.self ≡ took_effect e.process (run e old) = c.take_effect.ensures ∙ ap (took_effect e.process) c.run.ensures in
    let steps : (kept_of c.fix.new.self e.process).steps ≡ length (outline c.args.plan.now.tree).steps =
    ap (λ (t : Tables). (kept_of t e.process).steps) (c.fix.ensures ∙ ap (all_fixed e.process) is)
    ∙ (ap (λ (r : OpenProcess). r.steps) (fixed_row e.process (took_effect e.process (run e old)) (effect_open e.process (run e old) (run_open e old c.requires.open)))
    ∙ (ap (λ (r : OpenProcess). r.steps) (effect_row e.process (run e old) (run_open e old c.requires.open))
    ∙ (ap (λ (r : OpenProcess). r.steps) (run_row e old c.requires.open) ∙ c.requires.steps))) in
    let many = ap length (c.deref.ensures.value ∙ c.in_ok-planned.ensures) in
    let few = planned_few c.args.plan.now e.step in
    omega arith

pub reserve-requires-clause-known : goal.reserve-requires-clause-known
reserve-requires-clause-known c =
    let e = c.args.e in
    let old = c.args.holds.now in
    let p = c.args.plan.now in
    let is : c.take_effect.new.self ≡ took_effect e.process (run e old) = c.take_effect.ensures ∙ ap (took_effect e.process) c.run.ensures in
    let within = subst (λ n. Each (Each (λ b. b < n)) (shape_of p.tree).paths) (sym c.requires.operations) (tree_laid_out p.tree c.requires.good).within in
    subst (λ ps. AreKnown c.fix.new.self.conflicts ps) (sym (c.deref.ensures.value ∙ c.in_ok-planned.ensures))
    (subst (λ (t : Tables). AreKnown t.conflicts (planned_behind p e.step)) (sym (c.fix.ensures ∙ ap (all_fixed e.process) is)) (planned_known p (operations_in old.conflicts) e.step within c.requires.known))

pub returns-in_ok-planned : goal.returns-in_ok-planned
returns-in_ok-planned c =
    let e = c.args.e in
    let old = c.args.holds.now in
    let p = c.args.plan.now in
    let after = took_effect e.process (run e old) in
    let is : c.take_effect.new.self ≡ after = c.take_effect.ensures ∙ ap (took_effect e.process) c.run.ensures in
    let fixes : commits (shape_of p.tree) e.step ≡ true = sym c.commits.ensures ∙ c.if-commits.true in
    c.reserve.ensures
    ∙ (ap (λ ps. changed (with_reserved ps) e.process c.fix.new.self) (c.deref.ensures.value ∙ c.in_ok-planned.ensures)
    ∙ (ap (changed (with_reserved (planned_behind p e.step)) e.process) (c.fix.ensures ∙ ap (all_fixed e.process) is)
    ∙ sym (ap (λ t. if t then changed (with_reserved (planned_behind p e.step)) e.process (all_fixed e.process after) else after) fixes)))

pub returns-else-commits : goal.returns-else-commits
returns-else-commits c =
    let e = c.args.e in
    let old = c.args.holds.now in
    let p = c.args.plan.now in
    let after = took_effect e.process (run e old) in
    let is : c.take_effect.new.self ≡ after = c.take_effect.ensures ∙ ap (took_effect e.process) c.run.ensures in
    let fixes : commits (shape_of p.tree) e.step ≡ false = sym c.commits.ensures ∙ c.if-commits.false in
    is ∙ sym (ap (λ t. if t then changed (with_reserved (planned_behind p e.step)) e.process (all_fixed e.process after) else after) fixes)
