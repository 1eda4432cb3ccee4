use Rattle.std.proofs.Common.{sym, ap, ◌∙◌}
use Rattle.process_tree.specs.Conflicts.{do_conflict}
use Rattle.process_tree.specs.Entries.{entry_of}
use Rattle.schedule_model.specs.Blocking.{against_step, in_a_circle}
use Rattle.machine_model.specs.declared.blocked.Rule.TheVariants.{A2}
use Rattle.machine_model.specs.Blocks.{blocks_of, least_block}
use Rattle.hold_tables.specs.Tables.{holdings_of}
use Rattle.admission.specs.Admission.{owed_behind}
use Rattle.admission.specs.Least.{lesser_of}
use Rattle.admission.specs.Parts.{least_of_all}
use Rattle.admission.specs.declared.processes.Sought.TheVariants.{Next}
use Rattle.admission.proofs.Assembled.{committing-is, least_by, reserved-is, undoable-is}
use Rattle.admission.proofs.Classes.{class-kind, class-reserved, commits, stays}
use Rattle.admission.proofs.admission.least_of_step.Goals as goal

pub returns-then-is_reserved : goal.returns-then-is_reserved
returns-then-is_reserved c =
    let t = c.args.holds.now in
    let plan = c.args.plan.now in
    let i = c.args.process in
    let b = c.args.step in
    c.least_of_all-held.ensures.least ∙ ap (least_of_all t Next) c.entry_of-own.ensures
    ∙ sym (reserved-is t c.least_of_all-held.ensures.tidy (entry_of plan i b) (owed_behind plan i b))
    ∙ sym (ap (λ k. least_block (blocks_of (against_step (do_conflict t.conflicts) (holdings_of t) k (entry_of plan i b) (owed_behind plan i b)))) (class-reserved t plan i b (sym c.is_reserved.ensures ∙ c.if-is_reserved.true)))

pub returns-in-C : goal.returns-in-C
returns-in-C c =
    let t = c.args.holds.now in
    let plan = c.args.plan.now in
    let i = c.args.process in
    let b = c.args.step in
    let e = entry_of plan i b in
    let class = class-kind t plan i b c.step.result.now (sym c.is_reserved.ensures ∙ c.if-is_reserved.false) c.step.ensures in
    c.lesser_of.ensures
    ∙ ap (λ o. lesser_of o c.least_in_circle.result) (c.least_of_all-held.ensures.least ∙ ap (least_of_all t Next) c.entry_of-own.ensures)
    ∙ ap (lesser_of (least_of_all t Next e)) (c.least_in_circle.ensures ∙ ap (λ x. least_by A2 (in_a_circle (do_conflict t.conflicts) (holdings_of t) x)) c.entry_of-own.ensures)
    ∙ sym (undoable-is t c.least_of_all-held.ensures.tidy e (owed_behind plan i b))
    ∙ sym (ap (λ k. least_block (blocks_of (against_step (do_conflict t.conflicts) (holdings_of t) k e (owed_behind plan i b)))) (class ∙ stays c.step.result.now.kind c.in-C.is))

pub returns-in-P : goal.returns-in-P
returns-in-P c =
    let t = c.args.holds.now in
    let plan = c.args.plan.now in
    let i = c.args.process in
    let b = c.args.step in
    let e = entry_of plan i b in
    let class = class-kind t plan i b c.step.result.now (sym c.is_reserved.ensures ∙ c.if-is_reserved.false) c.step.ensures in
    c.lesser_of-in-P.ensures
    ∙ ap (λ o. lesser_of o c.least_committing.result) (c.least_of_all-held.ensures.least ∙ ap (least_of_all t Next) c.entry_of-own.ensures)
    ∙ ap (lesser_of (least_of_all t Next e)) c.least_committing.ensures
    ∙ sym (committing-is t c.least_of_all-held.ensures.tidy e (owed_behind plan i b))
    ∙ sym (ap (λ k. least_block (blocks_of (against_step (do_conflict t.conflicts) (holdings_of t) k e (owed_behind plan i b)))) (class ∙ commits c.step.result.now.kind c.in-P.is))
