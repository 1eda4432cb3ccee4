-- The order in which a call is refused: its tests stand one behind another, and the first that doesn't hold gives the refusal.
use Rattle.std.specs.Prelude.{◌⊎◌}

-- A test. It holds, and hands this value on to those behind it; or it doesn't hold, and this is refused.
pub record Test (R A : Type 0) : Type 1 where
  pub hands_on : A → Type 0
  pub refuses : R → Type 0

-- Tests one behind another. Those behind a test are about the value that it hands on; the last hands on what is left of all.
pub data Tests (R V : Type 0) : Type 1 where
  last_test : Test R V → Tests R V
  test_then : {A : Type 0} → Test R A → (A → Tests R V) → Tests R V

-- all before some test hold, and that one refuses this
abbrev pub IsFirstRefusal : {R V : Type 0} → Tests R V → R → Type 0
IsFirstRefusal (last_test t) r = t.refuses r
IsFirstRefusal (test_then {A = A} t behind) r = t.refuses r ⊎ ((a : A) × t.hands_on a × IsFirstRefusal (behind a) r)

-- all hold, and this is handed on
abbrev pub AllHold : {R V : Type 0} → Tests R V → V → Type 0
AllHold (last_test t) v = t.hands_on v
AllHold (test_then {A = A} t behind) v = (a : A) × t.hands_on a × AllHold (behind a) v

-- one list of tests behind another
abbrev pub followed_by : {R V W : Type 0} → Tests R V → (V → Tests R W) → Tests R W
followed_by (last_test t) more = test_then t more
followed_by (test_then t behind) more = test_then t (λ a. followed_by (behind a) more)

-- the test, where what it refuses leaves this
abbrev pub test_leaving : {R A : Type 0} → Type 0 → Test R A → Test R A
test_leaving Left t = record { hands_on = t.hands_on; refuses = λ r. t.refuses r × Left }

-- so of each test of a list
abbrev pub leaving : {R V : Type 0} → Type 0 → Tests R V → Tests R V
leaving Left (last_test t) = last_test (test_leaving Left t)
leaving Left (test_then t behind) = test_then (test_leaving Left t) (λ a. leaving Left (behind a))
