use Rattle.std.proofs.Common.{sym, ap, ◌∙◌}
use Rattle.process_tree.specs.Entries.{entry_of}
use Rattle.machine_model.specs.Blocks.{blocks_of, least_block}
use Rattle.admission.specs.Admission.{admitted, against_todo, class_in_tables, owed_behind}
use Rattle.admission.specs.Parts.{least_of_all}
use Rattle.admission.specs.declared.processes.Sought.TheVariants.{Next}
use Rattle.admission.proofs.HeldUp.{held_blocks}
use Rattle.admission.proofs.held.is_held_up.Goals as goal

pub returns-in-Forward : goal.returns-in-Forward
returns-in-Forward c is =
    let t = c.args.holds.now in
    let plan = c.args.plan.now in
    let i = c.args.process in
    let b = c.in-Forward.step in
    let found = c.is_held_at.ensures.held is in
    let blocks = held_blocks t c.is_held_at.ensures.tidy (class_in_tables t plan i b) (entry_of plan i b) (owed_behind plan i b) found.0 (ap (least_of_all t Next) (sym c.entry_of.ensures) ∙ found.1) in
    (blocks.0, ap (λ d. admitted (least_block (blocks_of (against_todo t plan i d)))) c.in-Forward.is ∙ ap admitted blocks.1)
