-- The history of a core has no more events than the limits admit.
use Rattle.std.proofs.Common.{◌≤◌, length, arith}
use Rattle.core_state.specs.Cores.{CoreState, IsCore, history_of}
use Rattle.core_state.proofs.EventCounts.{events_counted}
use Rattle.core_state.proofs.WithinLimits.{all_within}

pub few_events : (c : CoreState) → IsCore c → length (history_of c) ≤ 20480
few_events c core =
    let within = all_within c core in
    let few = within.0 in
    let all = within.2 in
    let parts = events_counted (history_of c) in
    omega arith
