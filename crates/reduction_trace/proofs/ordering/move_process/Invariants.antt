use Rattle.std.proofs.Common.{◌≡◌, ◌+◌, ℕ, List, ◌∷◌, length}
use Rattle.reduction_trace.specs.Phases.{serial_phase_behind}
use Rattle.reduction_trace.proofs.ordering.move_process.Given as goal

abbrev pub invariant-loop-place : goal.invariant-loop-place
invariant-loop-place l = record {
  phase : (order : List ℕ) → serial_phase_behind (l.process ∷ order) l.fn.steps.items l.fn.serial.items l.fn.left.items
      ≡ serial_phase_behind (l.process ∷ order) l.steps.items l.serial.items l.left.items;
  count : length l.serial.items + length l.left.items ≡ length l.fn.serial.items + length l.fn.left.items;
}

abbrev pub decreases-loop-place : goal.decreases-loop-place
decreases-loop-place l = length l.left.items
