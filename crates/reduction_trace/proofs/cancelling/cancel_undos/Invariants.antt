use Rattle.std.proofs.Common.{◌≡◌, ◌≤◌, length}
use Rattle.reduction_trace.specs.Phases.{cancel_phase_behind}
use Rattle.reduction_trace.proofs.cancelling.cancel_undos.Given as goal

abbrev pub invariant-loop-undo : goal.invariant-loop-undo
invariant-loop-undo l = record {
  phase : cancel_phase_behind l.fn.steps.items l.fn.left.items ≡ cancel_phase_behind l.steps.items l.left.items;
  few : length l.left.items ≤ length l.fn.left.items;
}

abbrev pub decreases-loop-undo : goal.decreases-loop-undo
decreases-loop-undo l = length l.left.items
