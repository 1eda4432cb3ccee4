-- What the limits count of the history of a core is within them.
use Rattle.std.proofs.Common.{◌≤◌, ◌&&◌, length, leb}
use Rattle.std.proofs.lemmas.Bool.{and_parts, leb-true}
use Rattle.schedule_model.specs.Histories.{active, starts}
use Rattle.schedule_model.specs.Limits.{entries, limits, most_active, most_entries, most_processes}
use Rattle.schedule_model.proofs.WithinLimits.{limits-hold}
use Rattle.machine_model.proofs.OwnOrderLaws.{runs_keep_own_order}
use Rattle.machine_model.proofs.RunsWithin.{runs_are_legal}
use Rattle.core_state.specs.Cores.{CoreState, IsCore, courses_in, history_of, machine_of, relation}

-- so it is of each run
pub all_within : (c : CoreState) → IsCore c → (length (starts (history_of c)) ≤ most_processes) × (length (active (history_of c)) ≤ most_active) × (entries (courses_in c) (history_of c) ≤ most_entries)
all_within c core =
    let h = history_of c in
    let within = (runs_are_legal (relation c) c.plans (machine_of c) core.session).1 in
    let own = runs_keep_own_order (relation c) c.plans (machine_of c) core.session in
    let stands = limits-hold limits c.plans h core.session.good own within in
    let two = and_parts (leb (length (active h)) most_active && leb (length (starts h)) most_processes) (leb (entries (courses_in c) h) most_entries) stands in
    let one = and_parts (leb (length (active h)) most_active) (leb (length (starts h)) most_processes) two.0 in
    (leb-true (length (starts h)) most_processes one.1, leb-true (length (active h)) most_active one.0, leb-true (entries (courses_in c) h) most_entries two.1)
