use Rattle.std.proofs.Common.{◌∙◌, ap}
use Rattle.schedule_model.specs.declared.trace_step.TraceStep.{TraceStep}
use Rattle.bulk_run.specs.Summary.{is_cancel, is_move}
use Rattle.std.specs.Prelude.{List, count_by}
use Rattle.bulk_run.proofs.Counted.{counted_all}
use Rattle.bulk_run.proofs.summing.summed_up.Goals as goal

pub returns : goal.returns
returns c =
    let r = c.in_ok-reduction.reduction in
    let steps = c.as_slice-steps.ensures in
    counted_all c.args.h.now c.as_slice-events.result.now r.steps r.serial c.starts.result c.acts.result c.undos.result c.ends.result c.moves.result c.cancels.result
    c.starts.ensures c.acts.ensures c.undos.ensures c.ends.ensures (c.moves.ensures ∙ ap (λ (ss : List TraceStep). count_by is_move ss) steps)
    (c.cancels.ensures ∙ ap (λ (ss : List TraceStep). count_by is_cancel ss) steps) c.as_slice-events.ensures c.in_ok-reduction.ensures.printed
