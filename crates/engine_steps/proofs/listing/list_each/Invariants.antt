use Rattle.std.proofs.Common.{◌≡◌, ◌<◌, ◌+◌, ◌^◌, length}
use Rattle.engine_steps.specs.Listing.{subsystems}
use Rattle.engine_steps.proofs.ListedEffects.{IsListedSoFar}
use Rattle.engine_steps.proofs.listing.list_each.Given as goal

abbrev pub invariant-loop-event : goal.invariant-loop-event
invariant-loop-event l = record {
  count : length l.group.items ≡ subsystems;
  listed : IsListedSoFar l.fn.ops l.fn.plans l.fn.number l.fn.events l.number l.rest l.group.items;
  numbers : l.number + length l.rest < 2 ^ 32;
}

abbrev pub decreases-loop-event : goal.decreases-loop-event
decreases-loop-event l = length l.rest
