use Rattle.std.proofs.Common.{◌≡◌, ◌+◌, length}
use Rattle.std.specs.Option.{option_map}
use Rattle.schedule_model.specs.PrintedTrace.{first_undo}
use Rattle.reduction_trace.proofs.places.first_undo.Given as goal

abbrev pub invariant-loop-rest : goal.invariant-loop-rest
invariant-loop-rest l = record {
  place : option_map (λ n. n + l.place) (first_undo l.rest) ≡ first_undo l.list;
  within : l.place + length l.rest ≡ length l.list;
}

abbrev pub decreases-loop-rest : goal.decreases-loop-rest
decreases-loop-rest l = length l.rest
