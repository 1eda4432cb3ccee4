use Rattle.std.proofs.Common.{◌<◌, ◌-◌, ℕ, length}
use Rattle.std.specs.List.{All}
use Rattle.subsystem_store.specs.Laws.{FitsItsBytes}
use Rattle.store_group.specs.Events.{effects_for}
use Rattle.engine_steps.proofs.listing.effects_fit.Given as goal

abbrev pub invariant-loop-place : goal.invariant-loop-place
invariant-loop-place l = record { before : (q : ℕ) → q < l.place → All FitsItsBytes (effects_for l.fn.group q) }

abbrev pub decreases-loop-place : goal.decreases-loop-place
decreases-loop-place l = length l.fn.group - l.place
