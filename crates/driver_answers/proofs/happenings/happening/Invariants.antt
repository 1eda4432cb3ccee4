use Rattle.std.proofs.Common.{◌≡◌, ◌+◌, ◌<◌, ◌^◌, length}
use Rattle.driver_answers.specs.Happenings.{happening, happening_from, unless_later}
use Rattle.driver_answers.proofs.happenings.happening.Given as goal

-- what came so far, and then those that are left
abbrev pub invariant-loop-rest : goal.invariant-loop-rest
invariant-loop-rest l = record {
  found : unless_later l.found (happening_from l.i l.step (l.place + 1) l.rest) ≡ happening l.i l.step l.events;
  count : l.place + length l.rest < 2 ^ 32;
}

abbrev pub decreases-loop-rest : goal.decreases-loop-rest
decreases-loop-rest l = length l.rest
