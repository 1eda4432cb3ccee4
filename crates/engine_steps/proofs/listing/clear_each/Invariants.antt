use Rattle.std.proofs.Common.{◌≡◌, ◌<◌, ◌-◌, ℕ, [], length}
use Rattle.store_group.specs.Events.{effects_for}
use Rattle.engine_steps.proofs.listing.clear_each.Given as goal

abbrev pub invariant-loop-place : goal.invariant-loop-place
invariant-loop-place l = record {
  count : length l.group.items ≡ length l.fn.group.items;
  before : (q : ℕ) → q < l.place → effects_for l.group.items q ≡ [];
}

abbrev pub decreases-loop-place : goal.decreases-loop-place
decreases-loop-place l = length l.group.items - l.place
