use Rattle.std.proofs.Common.{◌≡◌, ◌∙◌, filter, length, sym, ap, arith}
use Rattle.process_tree.specs.Blocks.{numbers_from}
use Rattle.process_tree.specs.Shape.{greatest}
use Rattle.machine_model.specs.Moment.{has_begun}
use Rattle.machine_model.specs.Replies.{admit_reply}
use Rattle.core_state.specs.Cores.{courses_in, moment_of, relation}
use Rattle.process_core.specs.Rotation.{can_be_victim}
use Rattle.core_state.proofs.KeptSeen.{few_seen, kept_seen, many_seen}
use Rattle.process_core.proofs.Rotations.{numbered_now}
use Rattle.process_core.proofs.Stalls.{blocked_victim, idle_now, runs_now, runs_on}
use Rattle.process_core.proofs.cores.Core.blocked_victim.Goals as goal

pub overflow_cast-count : goal.overflow_cast-count
overflow_cast-count c =
    let few = few_seen c.self.view_is c.self.invariant in
    let is = c.len-count.ensures in
    omega arith

pub returns-then-is_running : goal.returns-then-is_running
returns-then-is_running c =
    let v = c.args.self.now in
    sym (runs_on (relation v) (courses_in v) (moment_of v) (runs_now (moment_of v) (sym c.is_running.ensures ∙ c.if-is_running.true)))

pub returns-else-is_running : goal.returns-else-is_running
returns-else-is_running c =
    let v = c.args.self.now in
    let core = (kept_seen c.self.view_is c.self.invariant).stands.core in
    let all = many_seen c.self.view_is c.self.invariant in
    let is = c.len-count.ensures in
    let same : c.len-count.result ≡ length v.plans = omega arith in
    c.greatest_victim.ensures
    ∙ (ap (λ k. greatest (filter (λ i. can_be_victim (has_begun (moment_of v) i) (admit_reply (relation v) (courses_in v) (moment_of v) i)) (numbers_from 1 k))) same
    ∙ sym (blocked_victim (relation v) (courses_in v) (moment_of v) (length v.plans) v.served (numbered_now v core) (idle_now (moment_of v) (sym c.is_running.ensures ∙ c.if-is_running.false)) c.requires))
