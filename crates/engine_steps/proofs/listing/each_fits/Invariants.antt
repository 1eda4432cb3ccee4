use Rattle.std.proofs.Common.{◌<◌, ◌-◌, ℕ, length}
use Rattle.std.specs.Prelude.{slice_index_or}
use Rattle.subsystem_store.specs.declared.effect.Effect.{Effect}
use Rattle.subsystem_store.specs.Laws.{FitsItsBytes}
use Rattle.engine_steps.proofs.listing.each_fits.Given as goal

abbrev pub invariant-loop-place : goal.invariant-loop-place
invariant-loop-place l = record { before : (k : ℕ) (d : Effect) → k < l.place → k < length l.fn.effects → FitsItsBytes (slice_index_or l.fn.effects k d) }

abbrev pub decreases-loop-place : goal.decreases-loop-place
decreases-loop-place l = length l.fn.effects - l.place
