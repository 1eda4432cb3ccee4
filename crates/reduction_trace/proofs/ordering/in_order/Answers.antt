use Rattle.std.proofs.Common.{◌++◌, ap, sym, ◌∙◌}
use Rattle.reduction_trace.specs.Phases.{serial_phase_behind}
use Rattle.reduction_trace.proofs.ProcessPassed.{all-in_place, nothing-left}
use Rattle.reduction_trace.proofs.ordering.in_order.Goals as goal

pub returns : goal.returns
returns c =
    let ss = c.loop-rest.steps.items in
    let front = c.loop-rest.serial.items in
    let left = c.loop-rest.left.items in
    record {
      phase = c.loop-rest.invariant.phase
          ∙ (ap (λ order. serial_phase_behind order ss front left) (nothing-left c.loop-rest.rest.now c.in_default.len_below)
          ∙ (all-in_place ss front left ∙ ap (λ es. record { steps = ss; list = es }) (sym (c.in_ok-extend_from_slice.ensures.items ∙ ap (λ es. front ++ es) c.deref.ensures.value))));
    }
