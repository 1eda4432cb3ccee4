use Rattle.std.proofs.Common.{◌≡◌, ◌+◌, [], length}
use Rattle.reduction_trace.specs.Phases.{serial_phase_behind}
use Rattle.reduction_trace.proofs.ordering.in_order.Given as goal

abbrev pub invariant-loop-rest : goal.invariant-loop-rest
invariant-loop-rest l = record {
  phase : serial_phase_behind l.order l.fn.steps.items [] l.fn.left.items ≡ serial_phase_behind l.rest l.steps.items l.serial.items l.left.items;
  count : length l.serial.items + length l.left.items ≡ length l.fn.left.items;
}

abbrev pub decreases-loop-rest : goal.decreases-loop-rest
decreases-loop-rest l = length l.rest
