use Rattle.std.proofs.Common.{ap, ◌∙◌}
use Rattle.machine_model.specs.Blocks.{blocks_of, least_block}
use Rattle.admission.specs.Admission.{admitted, against_todo}
use Rattle.admission.proofs.held.is_barred.Goals as goal

pub returns-in-Forward : goal.returns-in-Forward
returns-in-Forward c is =
    let blocks = c.is_barred_at.ensures is in
    (blocks.0, ap (λ d. admitted (least_block (blocks_of (against_todo c.args.holds.now c.args.plan.now c.args.process d)))) c.in-Forward.is ∙ ap admitted blocks.1)
