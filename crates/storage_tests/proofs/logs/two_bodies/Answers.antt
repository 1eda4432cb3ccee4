use Rattle.std.proofs.Common.{[], refl}
use Rattle.storage_tests.proofs.StagedLogs.{ends_in_one}
use Rattle.storage_tests.proofs.logs.two_bodies.Goals as goal

pub append-requires-2-clause-open : goal.append-requires-2-clause-open
append-requires-2-clause-open g c = λ told. record { bodies = _; stands = c.in_ok-append.ensures.acknowledged refl [] (c.in_ok-log.ensures.stands refl) }

pub retract-requires-clause-open : goal.retract-requires-clause-open
retract-requires-clause-open g c = λ told.
    ends_in_one _ _ _ _ _ _ _ (c.in_ok-append.ensures.acknowledged refl [] (c.in_ok-log.ensures.stands refl)) (λ bs stands. c.in_ok-append-2.ensures.acknowledged refl bs stands) refl
