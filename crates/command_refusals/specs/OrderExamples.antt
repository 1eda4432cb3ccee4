-- What lists of tests refuse first, each of which holds by computing.
use Rattle.std.specs.Prelude.{◌≡◌, ◌⊎◌, refl}
use Rattle.command_refusals.specs.Order.{Test, last_test, test_then, IsFirstRefusal, followed_by, leaving}

-- of two tests the second refuses where the first holds, and is about what that hands on
pub of_two : {R A B : Type 0} (one : Test R A) (two : A → Test R B) (r : R)
    → IsFirstRefusal (test_then one (λ a. last_test (two a))) r ≡ (one.refuses r ⊎ ((a : A) × one.hands_on a × (two a).refuses r))
of_two one two r = refl

-- a list of one test behind another is a list of two
pub one_behind_one : {R A B : Type 0} (one : Test R A) (two : A → Test R B)
    → followed_by (last_test one) (λ a. last_test (two a)) ≡ test_then one (λ a. last_test (two a))
one_behind_one one two = refl

-- where the first of two lists leaves something, what the second refuses doesn't say so
pub first_leaves : {R A B : Type 0} (Left : Type 0) (one : Test R A) (two : A → Test R B) (r : R)
    → IsFirstRefusal (followed_by (leaving Left (last_test one)) (λ a. last_test (two a))) r
    ≡ ((one.refuses r × Left) ⊎ ((a : A) × one.hands_on a × (two a).refuses r))
first_leaves Left one two r = refl
