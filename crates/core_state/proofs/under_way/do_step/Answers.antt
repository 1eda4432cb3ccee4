use Rattle.std.proofs.Common.{◌∙◌, ◌+◌, ◌≤◌, ◌++◌, length, ap, sym, subst}
use Rattle.process_tree.specs.Blocks.{outline}
use Rattle.hold_tables.specs.Kept.{AreKnown}
use Rattle.process_tree.specs.Entries.{entry_of}
use Rattle.process_tree.specs.Recovery.{committing}
use Rattle.hold_tables.specs.Changes.{changed, run, with_reserved}
use Rattle.hold_tables.specs.Tables.{OpenProcess, Tables, is_open, kept_of}
use Rattle.admission.specs.Admission.{IsPlanFor, class_in_tables}
use Rattle.core_state.specs.UnderWay.{FitsClass, step_under_way}
use Rattle.core_state.specs.OpenTables.{planned_behind}
use Rattle.core_state.proofs.RowChanges.{run_open, run_row}
use Rattle.core_state.proofs.ComingUnderWay.{committing_is}
use Rattle.core_state.proofs.under_way.do_step.Goals as goal

pub reserve_owed-requires-clause-open : goal.reserve_owed-requires-clause-open
reserve_owed-requires-clause-open c =
    let t = c.args.holds.now in
    let e = entry_of c.args.plan.now c.args.process c.args.step in
    ap (λ (x : Tables). is_open x c.args.process) (c.run.ensures ∙ ap (λ x. run x t) c.entry_of.ensures) ∙ run_open e t c.requires.open

pub reserve_owed-requires-clause-plan : goal.reserve_owed-requires-clause-plan
reserve_owed-requires-clause-plan c =
    let t = c.args.holds.now in
    subst (λ (x : Tables). IsPlanFor x c.args.plan.now) (sym (c.run.ensures ∙ ap (λ x. run x t) c.entry_of.ensures)) (record { operations = c.requires.plan.operations; known = c.requires.plan.known })

pub reserve_owed-requires-clause-steps : goal.reserve_owed-requires-clause-steps
reserve_owed-requires-clause-steps c =
    let t = c.args.holds.now in
    let e = entry_of c.args.plan.now c.args.process c.args.step in
    ap (λ (x : Tables). (kept_of x c.args.process).steps) (c.run.ensures ∙ ap (λ x. run x t) c.entry_of.ensures) ∙ (ap (λ (r : OpenProcess). r.steps) (run_row e t c.requires.open) ∙ c.requires.steps)

pub reserve_owed-requires-clause-reserved : goal.reserve_owed-requires-clause-reserved
reserve_owed-requires-clause-reserved c =
    let t = c.args.holds.now in
    let p = c.args.plan.now in
    let e = entry_of p c.args.process c.args.step in
    let class = committing_is (class_in_tables t p c.args.process c.args.step) (sym c.is_committing-commits.ensures ∙ c.if-commits.true) in
    let fits = subst (FitsClass p c.args.process c.args.step t) class c.requires.may.2 in
    subst (λ (x : Tables). FitsClass p c.args.process c.args.step x committing) (sym (c.run.ensures ∙ ap (λ x. run x t) c.entry_of.ensures))
    (subst (λ (r : OpenProcess). (length r.reserved + length (planned_behind p c.args.step) ≤ length (outline p.tree).steps) × AreKnown t.conflicts r.reserved) (sym (run_row e t c.requires.open)) fits)

pub returns-then-commits : goal.returns-then-commits
returns-then-commits c =
    let t = c.args.holds.now in
    let p = c.args.plan.now in
    let i = c.args.process in
    let e = entry_of p i c.args.step in
    let class = committing_is (class_in_tables t p i c.args.step) (sym c.is_committing-commits.ensures ∙ c.if-commits.true) in
    let ran = c.run.ensures ∙ ap (λ x. run x t) c.entry_of.ensures in
    c.reserve_owed.ensures
    ∙ (ap (λ (x : Tables). changed (with_reserved ((kept_of x i).reserved ++ planned_behind p c.args.step)) i x) ran
    ∙ (ap (λ (r : OpenProcess). changed (with_reserved (r.reserved ++ planned_behind p c.args.step)) i (run e t)) (run_row e t c.requires.open)
    ∙ sym (ap (step_under_way p i c.args.step t) class)))
