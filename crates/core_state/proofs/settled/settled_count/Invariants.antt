use Rattle.std.proofs.Common.{◌≡◌, ◌≤◌, ◌+◌, length}
use Rattle.core_state.specs.Starting.{settled_count}
use Rattle.core_state.proofs.settled.settled_count.Given as goal

-- those passed and those left
abbrev pub invariant-loop-rest : goal.invariant-loop-rest
invariant-loop-rest l = record {
  counted : l.count + settled_count l.seats l.rest ≡ settled_count l.seats l.events;
  few : l.count + length l.rest ≤ length l.events;
}

abbrev pub decreases-loop-rest : goal.decreases-loop-rest
decreases-loop-rest l = length l.rest
