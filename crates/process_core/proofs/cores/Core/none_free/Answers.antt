use Rattle.std.proofs.Common.{◌≡◌, ◌∙◌, ℕ, ◌+◌, ◌-◌, length, Option, sym, ap, arith}
use Rattle.std.specs.Prelude.{unwrap_or}
use Rattle.process_tree.specs.Blocks.{numbers_from}
use Rattle.machine_model.specs.Replies.{admit_reply, none_free_by_active, none_free_by_running, stuck, wait}
use Rattle.core_state.specs.Cores.{courses_in, moment_of, relation}
use Rattle.process_core.specs.Rotation.{exhausted_in, first_told}
use Rattle.process_core.proofs.Exhausted.{least_exhausted_told}
use Rattle.core_state.proofs.KeptSeen.{few_seen, kept_seen, many_seen}
use Rattle.process_core.proofs.NextKept.{none_active}
use Rattle.process_core.proofs.Rotations.{numbered_now}
use Rattle.process_core.proofs.Stalls.{idle_now, runs_now}
use Rattle.process_core.proofs.cores.Core.none_free.Goals as goal

pub returns-then-is_none : goal.returns-then-is_none
returns-then-is_none c =
    let v = c.args.self.now in
    let tables = (kept_seen c.self.view_is c.self.invariant).stands.tables in
    sym (ap (none_free_by_active (relation v) (courses_in v) (moment_of v) v.served)
    (none_active v c.self.inside.holds tables c.next_open.result c.next_open.ensures.least c.is_none.result c.is_none.ensures ∙ c.if-is_none.true))

pub returns-then-is_running : goal.returns-then-is_running
returns-then-is_running c =
    let v = c.args.self.now in
    let tables = (kept_seen c.self.view_is c.self.invariant).stands.tables in
    sym (ap (none_free_by_active (relation v) (courses_in v) (moment_of v) v.served)
    (none_active v c.self.inside.holds tables c.next_open.result c.next_open.ensures.least c.is_none.result c.is_none.ensures ∙ c.if-is_none.false)
    ∙ (ap (none_free_by_running (relation v) (courses_in v) (moment_of v) v.served) (runs_now (moment_of v) (sym c.is_running.ensures ∙ c.if-is_running.true))
    ∙ ap wait (sym c.requires)))

pub overflow_cast-count : goal.overflow_cast-count
overflow_cast-count c =
    let few = few_seen c.self.view_is c.self.invariant in
    let is = c.len-count.ensures in
    omega arith

pub overflow_add-count : goal.overflow_add-count
overflow_add-count c =
    let few = few_seen c.self.view_is c.self.invariant in
    let is = c.len-count.ensures in
    omega arith

pub returns : goal.returns
returns c =
    let v = c.args.self.now in
    let core = (kept_seen c.self.view_is c.self.invariant).stands.core in
    let tables = (kept_seen c.self.view_is c.self.invariant).stands.tables in
    let all = many_seen c.self.view_is c.self.invariant in
    let is = c.len-count.ensures in
    let many : c.len-count.result + 1 - 1 ≡ length v.plans = omega arith in
    let f : ℕ → Option ℕ = λ i. exhausted_in i (admit_reply (relation v) (courses_in v) (moment_of v) i) in
    let idle = idle_now (moment_of v) (sym c.is_running.ensures ∙ c.if-is_running.false) in
    sym (ap (none_free_by_active (relation v) (courses_in v) (moment_of v) v.served)
    (none_active v c.self.inside.holds tables c.next_open.result c.next_open.ensures.least c.is_none.result c.is_none.ensures ∙ c.if-is_none.false)
    ∙ (ap (none_free_by_running (relation v) (courses_in v) (moment_of v) v.served) idle
    ∙ (ap (λ o. stuck (unwrap_or o 0)) (least_exhausted_told (relation v) (courses_in v) (moment_of v) idle (length v.plans) (numbered_now v core)
    ∙ (ap (λ k. first_told f (numbers_from 1 k)) (sym many) ∙ sym c.first_exhausted.ensures))
    ∙ ap stuck (sym c.unwrap_or.ensures))))
