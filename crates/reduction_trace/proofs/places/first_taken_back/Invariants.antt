use Rattle.std.proofs.Common.{◌≡◌, ◌+◌, not, ◌&&◌, length}
use Rattle.std.specs.Option.{option_map}
use Rattle.schedule_model.specs.Histories.{takes_back}
use Rattle.schedule_model.specs.PrintedTrace.{first_place}
use Rattle.reduction_trace.proofs.places.first_taken_back.Given as goal

abbrev pub invariant-loop-rest : goal.invariant-loop-rest
invariant-loop-rest l = record {
  place : option_map (λ n. n + l.place) (first_place (λ e. not e.undo && takes_back l.undo e) l.rest) ≡ first_place (λ e. not e.undo && takes_back l.undo e) l.list;
  within : l.place + length l.rest ≡ length l.list;
}

abbrev pub decreases-loop-rest : goal.decreases-loop-rest
decreases-loop-rest l = length l.rest
