use Rattle.std.proofs.Common.{sym, ap, ◌∙◌}
use Rattle.process_tree.specs.Conflicts.{do_conflict}
use Rattle.process_tree.specs.Entries.{entry_of}
use Rattle.schedule_model.specs.Blocking.{with_active, with_owed}
use Rattle.machine_model.specs.declared.blocked.Rule.TheVariants.{A3, A4}
use Rattle.machine_model.specs.Blocks.{by_rule}
use Rattle.hold_tables.specs.Tables.{holdings_of}
use Rattle.admission.specs.Admission.{owed_behind, steps_owed_after}
use Rattle.admission.specs.Least.{least_on, lesser_of}
use Rattle.admission.specs.Parts.{least_against_steps}
use Rattle.admission.proofs.Assembled.{active-is, all_owed-is, least_by}
use Rattle.admission.proofs.Order.{least-append}
use Rattle.admission.proofs.admission.least_committing.Goals as goal

pub returns : goal.returns
returns c =
    let t = c.args.holds.now in
    let plan = c.args.plan.now in
    let table = do_conflict t.conflicts in
    let b = entry_of plan c.args.process c.args.step in
    let tidy = c.least_in_front-front.ensures.tidy in
    let active = c.least_in_net-active.ensures
    ∙ ap (λ e. lesser_of (least_on table A3 e t.net) c.least_in_front-front.result) c.entry_of-own.ensures
    ∙ ap (lesser_of (least_on table A3 b t.net)) c.least_in_front-front.ensures.least
    ∙ sym (active-is t tidy b) in
    c.least_owed.ensures
    ∙ ap (λ o. lesser_of o (least_against_steps t plan c.args.process (steps_owed_after plan c.args.step))) active
    ∙ ap (lesser_of (least_by A3 (with_active table (holdings_of t) b))) (sym (all_owed-is t tidy plan c.args.process c.args.step))
    ∙ sym (least-append (by_rule A3 (with_active table (holdings_of t) b)) (by_rule A4 (with_owed table (holdings_of t) (owed_behind plan c.args.process c.args.step))))
