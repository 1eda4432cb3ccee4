use Rattle.std.proofs.Common.{◌≡◌, ◌≤◌, ◌+◌, length}
use Rattle.schedule_model.specs.Histories.{acts}
use Rattle.engine_steps.proofs.pieces.acts_count.Given as goal

abbrev pub invariant-loop-rest : goal.invariant-loop-rest
invariant-loop-rest l = record {
  number : l.count + length (acts l.rest) ≡ length (acts l.fn.events);
  few : l.count + length l.rest ≤ length l.fn.events;
}

abbrev pub decreases-loop-rest : goal.decreases-loop-rest
decreases-loop-rest l = length l.rest
