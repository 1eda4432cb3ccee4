use Rattle.std.proofs.Common.{◌≤◌, ◌-◌, length, vec_capacity}
use Rattle.engine_steps.specs.Listing.{subsystems}
use Rattle.engine_steps.proofs.listing.Lists.new.Given as goal

abbrev pub invariant-loop-alloc : goal.invariant-loop-alloc
invariant-loop-alloc l = record { within : length l.lists.items ≤ subsystems; room : subsystems ≤ vec_capacity l.lists }

abbrev pub decreases-loop-alloc : goal.decreases-loop-alloc
decreases-loop-alloc l = subsystems - length l.lists.items
