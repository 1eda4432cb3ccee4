use Rattle.std.proofs.Common.{◌≡◌, ◌∙◌, length, ap, arith}
use Rattle.core_state.specs.Starting.{settled_count}
use Rattle.core_state.proofs.CountsSeen.{entries_seen, events_seen, started_seen}
use Rattle.core_state.proofs.KeptSeen.{kept_seen}
use Rattle.core_state.proofs.WithinLimits.{all_within}
use Rattle.process_core.proofs.cores.Core.counts.Goals.{After-settled_count-settled}
use Rattle.process_core.proofs.cores.Core.counts.Goals as goal

-- the entries that stand are counted by the seats
settled : (c : After-settled_count-settled) → c.settled_count-settled.result ≡ settled_count c.self.inside.seats.items c.self.inside.history.events
settled c = c.settled_count-settled.ensures.count ∙ (ap (λ xs. settled_count xs c.as_slice.result.now) c.deref.ensures.value ∙ ap (settled_count c.self.inside.seats.items) c.as_slice.ensures)

pub settled_count-settled-requires : goal.settled_count-settled-requires
settled_count-settled-requires c =
    let few = events_seen c.self.view_is c.self.invariant in
    let now = ap length c.as_slice.ensures in
    omega arith

pub overflow_cast-result : goal.overflow_cast-result
overflow_cast-result c =
    let ok = c.self.inside.seats.ok in
    let each = started_seen c.self.view_is c.self.invariant in
    let within = (all_within c.args.self.now (kept_seen c.self.view_is c.self.invariant).stands.core).0 in
    let len = c.len.ensures in
    omega arith

pub overflow_cast-result-2 : goal.overflow_cast-result-2
overflow_cast-result-2 c =
    let within = (all_within c.args.self.now (kept_seen c.self.view_is c.self.invariant).stands.core).1 in
    let load = c.load-load.ensures.active in
    omega arith

pub returns-clause-processes : goal.returns-clause-processes
returns-clause-processes c =
    let ok = c.self.inside.seats.ok in
    let each = started_seen c.self.view_is c.self.invariant in
    let len = c.len.ensures in
    omega arith

pub returns-clause-entries : goal.returns-clause-entries
returns-clause-entries c =
    entries_seen c.self.view_is c.self.invariant _ _ (settled (goal.at.returns-clause-entries c).After-settled_count-settled) c.load-load.ensures.needed

pub returns-clause-within : goal.returns-clause-within
returns-clause-within c =
    let ok = c.self.inside.seats.ok in
    let within = all_within c.args.self.now (kept_seen c.self.view_is c.self.invariant).stands.core in
    let within0 = within.0 in
    let within1 = within.1 in
    let within2 = within.2 in
    let each = started_seen c.self.view_is c.self.invariant in
    let len = c.len.ensures in
    let load = c.load-load.ensures.active in
    let sum = entries_seen c.self.view_is c.self.invariant c.settled_count-settled.result c.load-load.result.needed (settled (goal.at.returns-clause-within c).After-settled_count-settled) c.load-load.ensures.needed in
    (omega arith, omega arith, omega arith)
