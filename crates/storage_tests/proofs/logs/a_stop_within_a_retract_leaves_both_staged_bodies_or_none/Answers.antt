use Rattle.std.proofs.Common.{[], refl}
use Rattle.storage_tests.proofs.StagedLogs.{stands_with_two, two_are, two_can_go, ends_in_two}
use Rattle.storage_tests.proofs.logs.a_stop_within_a_retract_leaves_both_staged_bodies_or_none.Goals as goal

pub append_staged-requires-clause-open : goal.append_staged-requires-clause-open
append_staged-requires-clause-open g c = λ told. record {
  bodies = _;
  stands = stands_with_two _ _ _ _ _ _ _ c.stage.ensures c.stage-2.ensures (c.in_ok-append.ensures.acknowledged refl [] (c.in_ok-log.ensures.stands refl));
}

pub retract-requires-clause-last : goal.retract-requires-clause-last
retract-requires-clause-last g c =
    two_can_go _ _ _ _ (two_are _ _ _ _ _ c.in_ok-append.ensures.ok.unstaged c.stage.ensures c.stage-2.ensures) c.in_ok-append_staged.ensures.ok.1

pub retract-requires-clause-open : goal.retract-requires-clause-open
retract-requires-clause-open g c = λ told.
    let stands = stands_with_two _ _ _ _ _ _ _ c.stage.ensures c.stage-2.ensures (c.in_ok-append.ensures.acknowledged refl [] (c.in_ok-log.ensures.stands refl)) in
    ends_in_two _ _ _ _ _ _ _ _ _ stands (λ bs so. c.in_ok-append_staged.ensures.acknowledged refl bs so) (two_are _ _ _ _ _ c.in_ok-append.ensures.ok.unstaged c.stage.ensures c.stage-2.ensures) refl
