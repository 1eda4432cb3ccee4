-- Who isn't over has started.
use Rattle.std.proofs.Common.{◌≡◌, ℕ, Bool, true, false, refl, subst}
use Rattle.machine_model.specs.Replies.{admit_by_known}
use Rattle.process_core.specs.Cores.{CoreState, courses_in, moment_of, relation}
use Rattle.process_core.specs.Moments.{has_started_in, reply_in}
use Rattle.driver_answers.specs.Waits.{is_over}

pub has_started : (c : CoreState) (i : ℕ) → is_over (reply_in c i) ≡ false → has_started_in c i ≡ true
has_started c i goes_on = by (has_started_in c i) refl
  where
    by : (b : Bool) → has_started_in c i ≡ b → has_started_in c i ≡ true
    by true is = is
    by false is = absurd (let over : is_over (admit_by_known (relation c) (courses_in c) (moment_of c) i false) ≡ false =
        subst (λ b. is_over (admit_by_known (relation c) (courses_in c) (moment_of c) i b) ≡ false) is goes_on in cc)
