-- What is refused first by lists of tests that stand one behind another.
use Rattle.std.proofs.Common.{◌⊎◌, inl, inr}
use Rattle.command_refusals.specs.Order.{Tests, last_test, test_then, AllHold, IsFirstRefusal, followed_by, leaving}

-- what the first of two lists refuses is refused first by both
pub refused_before : {R V W : Type 0} (tests : Tests R V) (more : V → Tests R W) (r : R) → IsFirstRefusal tests r → IsFirstRefusal (followed_by tests more) r
refused_before (last_test t) more r why = inl why
refused_before (test_then t behind) more r (inl why) = inl why
refused_before (test_then t behind) more r (inr (a, holds, why)) = inr (a, holds, refused_before (behind a) more r why)

-- and so is what the second refuses of what the first hands on
pub refused_behind : {R V W : Type 0} (tests : Tests R V) (more : V → Tests R W) (r : R) (v : V) → AllHold tests v → IsFirstRefusal (more v) r → IsFirstRefusal (followed_by tests more) r
refused_behind (last_test t) more r v holds why = inr (v, holds, why)
refused_behind (test_then t behind) more r v (a, holds, all) why = inr (a, holds, refused_behind (behind a) more r v all why)

-- nothing else is
pub in_parts : {R V W : Type 0} (tests : Tests R V) (more : V → Tests R W) (r : R) → IsFirstRefusal (followed_by tests more) r → IsFirstRefusal tests r ⊎ ((v : V) × AllHold tests v × IsFirstRefusal (more v) r)
in_parts (last_test t) more r why = why
in_parts {V = V} {W = W} (test_then t behind) more r (inl why) = inl (inl why)
in_parts {R = R} {V = V} {W = W} (test_then {A = A} t behind) more r (inr (a, holds, why)) = by (in_parts (behind a) more r why)
  where
    by : IsFirstRefusal (behind a) r ⊎ ((v : V) × AllHold (behind a) v × IsFirstRefusal (more v) r)
        → IsFirstRefusal (test_then t behind) r ⊎ ((v : V) × AllHold (test_then t behind) v × IsFirstRefusal (more v) r)
    by (inl before) = inl (inr (a, holds, before))
    by (inr (v, all, later)) = inr (v, (a, holds, all), later)

-- what such tests refuse, with what they leave
pub refused_leaving : {R V : Type 0} (Left : Type 0) (tests : Tests R V) (r : R) → IsFirstRefusal tests r → Left → IsFirstRefusal (leaving Left tests) r
refused_leaving Left (last_test t) r why left = (why, left)
refused_leaving Left (test_then t behind) r (inl why) left = inl (why, left)
refused_leaving Left (test_then t behind) r (inr (a, holds, why)) left = inr (a, holds, refused_leaving Left (behind a) r why left)

pub what_is_left : {R V : Type 0} (Left : Type 0) (tests : Tests R V) (r : R) → IsFirstRefusal (leaving Left tests) r → IsFirstRefusal tests r × Left
what_is_left Left (last_test t) r why = why
what_is_left Left (test_then t behind) r (inl why) = (inl why.0, why.1)
what_is_left Left (test_then t behind) r (inr (a, holds, why)) = let later = what_is_left Left (behind a) r why in (inr (a, holds, later.0), later.1)

-- they hold as they do
pub all_hold_leaving : {R V : Type 0} (Left : Type 0) (tests : Tests R V) (v : V) → AllHold tests v → AllHold (leaving Left tests) v
all_hold_leaving Left (last_test t) v holds = holds
all_hold_leaving Left (test_then t behind) v (a, holds, all) = (a, holds, all_hold_leaving Left (behind a) v all)

pub all_held : {R V : Type 0} (Left : Type 0) (tests : Tests R V) (v : V) → AllHold (leaving Left tests) v → AllHold tests v
all_held Left (last_test t) v holds = holds
all_held Left (test_then t behind) v (a, holds, all) = (a, holds, all_held Left (behind a) v all)

-- two lists hold exactly where the second holds of what the first hands on
pub all_hold_both : {R V W : Type 0} (tests : Tests R V) (more : V → Tests R W) (v : V) (w : W) → AllHold tests v → AllHold (more v) w → AllHold (followed_by tests more) w
all_hold_both (last_test t) more v w holds all = (v, holds, all)
all_hold_both (test_then t behind) more v w (a, holds, first) all = (a, holds, all_hold_both (behind a) more v w first all)

pub both_held : {R V W : Type 0} (tests : Tests R V) (more : V → Tests R W) (w : W) → AllHold (followed_by tests more) w → (v : V) × AllHold tests v × AllHold (more v) w
both_held (last_test t) more w all = all
both_held (test_then t behind) more w (a, holds, all) = let both = both_held (behind a) more w all in (both.0, (a, holds, both.1), both.2)
