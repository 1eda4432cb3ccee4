use Rattle.std.proofs.Common.{◌≡◌, ◌∙◌, ◌+◌, ◌-◌, ℕ, Bool, Some, filter, ap, sym, arith}
use Rattle.process_tree.specs.Blocks.{numbers_from}
use Rattle.process_tree.specs.Shape.{greatest}
use Rattle.machine_model.specs.Moment.{has_begun}
use Rattle.machine_model.specs.Replies.{admit_reply}
use Rattle.core_state.specs.Cores.{courses_in, moment_of, relation}
use Rattle.process_core.specs.Rotation.{can_be_victim}
use Rattle.core_state.proofs.Greatest.{greatest_here, passed_over}
use Rattle.process_core.proofs.cores.Core.greatest_victim.Goals as goal

pub returns-then-can_be_victim : goal.returns-then-can_be_victim
returns-then-can_be_victim c =
    let v = c.args.self.now in
    let q : ℕ → Bool = λ i. can_be_victim (has_begun (moment_of v) i) (admit_reply (relation v) (courses_in v) (moment_of v) i) in
    let n = c.loop-left.left - 1 in
    let some = c.loop-left-test.true in
    let e : c.loop-left.left ≡ n + 1 = omega arith in
    sym (ap greatest c.loop-left.invariant ∙ (ap (λ k. greatest (filter q (numbers_from 1 k))) e
    ∙ (greatest_here q n (ap q (sym e) ∙ (sym c.can_be_victim.ensures ∙ c.if-can_be_victim.true)) ∙ ap Some (sym e))))

pub loop-left-preserved : goal.loop-left-preserved
loop-left-preserved c =
    let v = c.args.self.now in
    let q : ℕ → Bool = λ i. can_be_victim (has_begun (moment_of v) i) (admit_reply (relation v) (courses_in v) (moment_of v) i) in
    let n = c.loop-left.left - 1 in
    let some = c.loop-left-test.true in
    let e : c.loop-left.left ≡ n + 1 = omega arith in
    c.loop-left.invariant ∙ (ap (λ k. filter q (numbers_from 1 k)) e ∙ passed_over q n (ap q (sym e) ∙ (sym c.can_be_victim.ensures ∙ c.if-can_be_victim.false)))
