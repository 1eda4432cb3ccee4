use Rattle.std.proofs.Common.{◌≡◌, ◌+◌, ◌<◌, ◌^◌, length}
use Rattle.driver_answers.specs.Waits.{last_event, last_from}
use Rattle.driver_answers.proofs.waits.last_event.Given as goal

-- what is known so far, and then the events that are left
abbrev pub invariant-loop-rest : goal.invariant-loop-rest
invariant-loop-rest l = record {
  found : last_from l.i l.known (l.place + 1) l.rest ≡ last_event l.i l.events;
  count : l.place + length l.rest < 2 ^ 32;
}

abbrev pub decreases-loop-rest : goal.decreases-loop-rest
decreases-loop-rest l = length l.rest
