use Rattle.std.proofs.Common.{◌≡◌, ◌∙◌, ◌+◌, ◌<◌, length, ap, arith}
use Rattle.schedule_model.specs.Course.{course_of}
use Rattle.schedule_model.specs.Histories.{active, starts}
use Rattle.schedule_model.specs.Limits.{entries, need}
use Rattle.core_state.specs.Cores.{courses_in, history_of, moment_of}
use Rattle.core_state.specs.Starting.{settled_count}
use Rattle.core_state.proofs.CountsSeen.{entries_seen, events_seen, started_seen}
use Rattle.core_state.proofs.StartRefusals.{not_refused, refused_room, refused_started}
use Rattle.process_core.proofs.cores.Core.start_refusal.Goals.{After-len, After-need}
use Rattle.process_core.proofs.cores.Core.start_refusal.Goals as goal

-- few are active, and few have started
few_active : (c : After-len) → length (active (history_of c.args.self.now)) < 256
few_active c =
    let load = c.load-load.ensures.active in
    let less = c.if-load-ge-MOST_ACTIVE.false in
    omega arith

few_started : (c : After-need) → length (starts (history_of c.args.self.now)) < 4096
few_started c =
    let ok = c.self.inside.seats.ok in
    let each = started_seen c.self.view_is c.self.invariant in
    let len = c.len.ensures in
    let less = c.if-len-ge-MOST_PROCESSES.false in
    omega arith

-- how many entries there would be
entries_then : (c : After-need) → c.settled_count-settled.result + c.load-load.result.needed + c.need.result ≡ entries (courses_in c.args.self.now) (history_of c.args.self.now) + need (course_of c.args.plan.now)
entries_then c =
    let ss = c.self.inside.seats.items in
    let settled : c.settled_count-settled.result ≡ settled_count ss c.self.inside.history.events =
    c.settled_count-settled.ensures.count ∙ (ap (λ xs. settled_count xs c.as_slice.result.now) c.deref.ensures.value ∙ ap (settled_count ss) c.as_slice.ensures) in
    let all = entries_seen c.self.view_is c.self.invariant c.settled_count-settled.result c.load-load.result.needed settled c.load-load.ensures.needed in
    let new = c.need.ensures.need in
    omega arith

pub settled_count-settled-requires : goal.settled_count-settled-requires
settled_count-settled-requires c =
    let few = events_seen c.self.view_is c.self.invariant in
    let now = ap length c.as_slice.ensures in
    omega arith

pub returns-then-len-ge-MOST_PROCESSES : goal.returns-then-len-ge-MOST_PROCESSES
returns-then-len-ge-MOST_PROCESSES c =
    let ok = c.self.inside.seats.ok in
    let each = started_seen c.self.view_is c.self.invariant in
    let len = c.len.ensures in
    let past = c.if-len-ge-MOST_PROCESSES.true in
    refused_started (courses_in c.args.self.now) (moment_of c.args.self.now) (course_of c.args.plan.now) (few_active (goal.at.returns-then-len-ge-MOST_PROCESSES c).After-len) (omega arith)

pub overflow_add-entries : goal.overflow_add-entries
overflow_add-entries c = let a = c.settled_count-settled.ensures.few in let b = c.load-load.ensures.few in omega arith

pub overflow_add-entries-2 : goal.overflow_add-entries-2
overflow_add-entries-2 c = let a = c.settled_count-settled.ensures.few in let b = c.load-load.ensures.few in let d = c.need.ensures.few in omega arith

pub overflow_cast-result-then-entries-gt-MOST_ENTRIES : goal.overflow_cast-result-then-entries-gt-MOST_ENTRIES
overflow_cast-result-then-entries-gt-MOST_ENTRIES c = let a = c.settled_count-settled.ensures.few in let b = c.load-load.ensures.few in let d = c.need.ensures.few in omega arith

pub returns-then-entries-gt-MOST_ENTRIES : goal.returns-then-entries-gt-MOST_ENTRIES
returns-then-entries-gt-MOST_ENTRIES c =
    let at = goal.at.returns-then-entries-gt-MOST_ENTRIES c in
    let past = c.if-entries-gt-MOST_ENTRIES.true in
    refused_room (courses_in c.args.self.now) (moment_of c.args.self.now) (course_of c.args.plan.now) (few_active at.After-len) (few_started at.After-need)
    (c.settled_count-settled.result + c.load-load.result.needed + c.need.result) (entries_then at.After-need) (omega arith)

pub returns : goal.returns
returns c =
    let at = goal.at.returns c in
    let fits = c.if-entries-gt-MOST_ENTRIES.false in
    not_refused (courses_in c.args.self.now) (moment_of c.args.self.now) (course_of c.args.plan.now) (few_active at.After-len) (few_started at.After-need)
    (c.settled_count-settled.result + c.load-load.result.needed + c.need.result) (entries_then at.After-need) (omega arith)
