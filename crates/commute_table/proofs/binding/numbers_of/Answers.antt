use Rattle.std.proofs.Common.{◌≤◌, length, arith}
use Rattle.std.proofs.lemmas.Result.{err_from_is_err_and}
use Rattle.process_tree.specs.Blocks.{outline}
use Rattle.commute_table.proofs.Bound.{bound_next, bound_fail, bound_all}
use Rattle.commute_table.proofs.binding.numbers_of.Goals as goal

pub returns-in_err-number : goal.returns-in_err-number
returns-in_err-number c =
    let p = err_from_is_err_and c.from_residual.result c.from_residual.ensures.1 in
    rw (p.1, p.2) (bound_fail c.in_err-number.field-0.0 c.args.ops.now (outline c.args.tree.now).steps c.loop-n.n c.step.result.now c.loop-n.numbers.items _ c.step.ensures c.in_err-number.ensures c.loop-n.invariant)

pub loop-n-preserved : goal.loop-n-preserved
loop-n-preserved c = rw c.in_ok-push.ensures.items (bound_next c.args.ops.now (outline c.args.tree.now).steps c.loop-n.n c.in_ok-number.number c.step.result.now c.loop-n.numbers.items _ c.step.ensures c.in_ok-number.ensures c.loop-n.invariant)

pub returns : goal.returns
returns c =
    let all : length (outline c.args.tree.now).steps ≤ c.loop-n.n = omega (arith, c.count-n-end.ensures.count) in
    rw c.new.ensures (bound_all c.args.ops.now (outline c.args.tree.now).steps c.loop-n.n c.loop-n.numbers.items _ all c.loop-n.invariant)
