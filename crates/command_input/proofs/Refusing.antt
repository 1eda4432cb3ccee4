-- What tests without a verdict line refuse first, where they stand among others.
use Rattle.std.proofs.Common.{ℕ, Vec, inl, inr}
use Rattle.std.specs.declared.alloc.Global.{Global}
use Rattle.command_refusals.specs.declared.refusal.Refusal.{Refusal}
use Rattle.command_refusals.specs.Order.{Tests, last_test, test_then, IsFirstRefusal}
use Rattle.command_input.specs.declared.scenario.NoPlans.TheVariants.{Refused, IllFormed}
use Rattle.command_input.specs.Scenarios.{all_refusing}

-- they refuse what they refuse by themselves,
pub refused_among : {V : Type 0} (tests : Tests Refusal V) (r : Refusal) → IsFirstRefusal tests r → IsFirstRefusal (all_refusing tests) (Refused r)
refused_among (last_test t) r why = why
refused_among (test_then t behind) r (inl why) = inl why
refused_among (test_then t behind) r (inr (a, holds, why)) = inr (a, holds, refused_among (behind a) r why)

pub refused_alone : {V : Type 0} (tests : Tests Refusal V) (r : Refusal) → IsFirstRefusal (all_refusing tests) (Refused r) → IsFirstRefusal tests r
refused_alone (last_test t) r why = why
refused_alone (test_then t behind) r (inl why) = inl why
refused_alone (test_then t behind) r (inr (a, holds, why)) = inr (a, holds, refused_alone (behind a) r why)

-- and no verdict line comes of them
pub no_line : {V : Type 0} (tests : Tests Refusal V) (line : Vec ℕ Global) → IsFirstRefusal (all_refusing tests) (IllFormed line) → ⊥
no_line (last_test t) line none = none
no_line (test_then t behind) line (inl none) = none
no_line (test_then t behind) line (inr (a, holds, later)) = no_line (behind a) line later
