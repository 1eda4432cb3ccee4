use Rattle.std.proofs.Common.{◌≤◌, ◌-◌, vec_len}
use Rattle.store_group.specs.Events.{StagesEffects, effects_for}
use Rattle.store_group.proofs.InOrder.{ChangedBelow}
use Rattle.store_group.proofs.events.stage_effects.Given as goal

abbrev pub invariant-loop-place : goal.invariant-loop-place
invariant-loop-place g l = record {
  changed : ChangedBelow (λ q s t. StagesEffects (effects_for l.fn.effects q) s t) l.place l.fn.stores.items l.stores.items;
  within : l.place ≤ vec_len l.stores;
}

abbrev pub decreases-loop-place : goal.decreases-loop-place
decreases-loop-place g l = vec_len l.stores - l.place
