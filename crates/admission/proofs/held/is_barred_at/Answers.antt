use Rattle.std.proofs.Common.{sym, ap, ◌∙◌}
use Rattle.process_tree.specs.declared.entry.Entry.{Entry}
use Rattle.process_tree.specs.Conflicts.{do_conflict}
use Rattle.process_tree.specs.Entries.{entry_of}
use Rattle.schedule_model.specs.Blocking.{against_step, in_a_circle}
use Rattle.machine_model.specs.declared.blocked.Rule.TheVariants.{A2, A3}
use Rattle.machine_model.specs.Blocks.{blocks_of, least_block}
use Rattle.hold_tables.specs.Tables.{holdings_of}
use Rattle.admission.specs.Admission.{owed_behind}
use Rattle.admission.specs.Least.{least_on}
use Rattle.admission.proofs.Assembled.{least_by}
use Rattle.admission.proofs.Barred.{circle_blocks, met_blocks}
use Rattle.admission.proofs.Classes.{class-kind, commits, stays}
use Rattle.admission.proofs.held.is_barred_at.Goals as goal

pub returns-in-C : goal.returns-in-C
returns-in-C c is =
    let t = c.args.holds.now in
    let plan = c.args.plan.now in
    let i = c.args.process in
    let b = c.args.step in
    let e = entry_of plan i b in
    let table = do_conflict t.conflicts in
    let class = class-kind t plan i b c.step.result.now (sym c.is_reserved.ensures ∙ c.if-is_reserved.false) c.step.ensures in
    let found = c.closes_circle.ensures.circle is in
    let blocks = circle_blocks t c.closes_circle.ensures.tidy e (owed_behind plan i b) found.0 (ap (λ (x : Entry). least_by A2 (in_a_circle table (holdings_of t) x)) (sym c.entry_of-own.ensures) ∙ found.1) in
    (blocks.0, ap (λ k. least_block (blocks_of (against_step table (holdings_of t) k e (owed_behind plan i b)))) (class ∙ stays c.step.result.now.kind c.in-C.is) ∙ blocks.1)

pub returns-in-P : goal.returns-in-P
returns-in-P c is =
    let t = c.args.holds.now in
    let plan = c.args.plan.now in
    let i = c.args.process in
    let b = c.args.step in
    let e = entry_of plan i b in
    let table = do_conflict t.conflicts in
    let class = class-kind t plan i b c.step.result.now (sym c.is_reserved.ensures ∙ c.if-is_reserved.false) c.step.ensures in
    let found = c.is_met.ensures.met is in
    let blocks = met_blocks t c.is_met.ensures.tidy e (owed_behind plan i b) found.0 (ap (λ (x : Entry). least_on table A3 x t.net) (sym c.entry_of-own.ensures) ∙ found.1) in
    (blocks.0, ap (λ k. least_block (blocks_of (against_step table (holdings_of t) k e (owed_behind plan i b)))) (class ∙ commits c.step.result.now.kind c.in-P.is) ∙ blocks.1)
