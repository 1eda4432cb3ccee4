use Rattle.std.proofs.Common.{◌∙◌, ◌++◌, ap}
use Rattle.serial_values.proofs.Subsystems.{on_ok}
use Rattle.process_report.specs.Lines.{text_of}
use Rattle.replay_run.proofs.PrintedValues.{box_lines}
use Rattle.serial_values.proofs.values.put_filled.Goals as goal

pub returns : goal.returns
returns g c =
    let ops = c.args.ops.now in
    let plans = c.args.plans.now in
    let es = c.args.steps.now in
    let items = (g.B.Resource.meaning c.fill.new.resource).items in
    let old = c.args.out.now.items in
    on_ok c.put_box.result _ _
    (λ is. is ∙ ap (λ ls. old ++ text_of ls) (box_lines ops plans es c.args.keys.now c.requires.keys c.requires.sorted c.args.q items c.in_ok-fill.ensures))
    c.put_box.ensures
