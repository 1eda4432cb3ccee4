use Rattle.std.proofs.Common.{refl}
use Rattle.storage_tests.proofs.StagedLogs.{open_with_three}
use Rattle.storage_tests.proofs.logs.a_stop_leaves_all_staged_bodies_or_none.Goals as goal

pub append_staged-requires-clause-open : goal.append_staged-requires-clause-open
append_staged-requires-clause-open g c = λ told.
    open_with_three _ _ _ _ _ _ _ _ c.stage.ensures c.stage-2.ensures c.stage-3.ensures (c.in_ok-log.ensures.stands refl)
