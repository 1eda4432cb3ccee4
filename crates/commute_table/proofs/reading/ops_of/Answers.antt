use Rattle.std.proofs.Common.{◌≡◌, [], Ok}
use Rattle.std.proofs.lemmas.Result.{err_from_is_err_and}
use Rattle.commute_table.specs.Reading.{ops_at, op_at, Fails}
use Rattle.commute_table.proofs.Loops.{ops_go_on, ops_end, ops_done}
use Rattle.commute_table.proofs.reading.ops_of.Goals as goal

pub returns-in_err-op : goal.returns-in_err-op
returns-in_err-op c =
    let p = err_from_is_err_and c.from_residual.result c.from_residual.ensures.1 in
    let failed : Fails c.in_err-op.field-0.0 (op_at c.loop.ops.items c.loop.rest.now) = rw (← c.deref.ensures.value) c.in_err-op.ensures in
    rw (p.1, p.2) (ops_end c.in_err-op.field-0.0 c.args.count c.loop.counter c.loop.ops.items c.loop.rest.now (ops_at c.args.count [] c.args.bytes.now) c.loop-test.true failed c.loop.invariant)

pub loop-preserved : goal.loop-preserved
loop-preserved c =
    let found : op_at c.loop.ops.items c.loop.rest.now ≡ Ok (c.in_ok-op.op, c.in_ok-op.after.now) = rw (← c.deref.ensures.value) c.in_ok-op.ensures in
    rw c.in_ok-push.ensures.items (ops_go_on c.args.count c.loop.counter c.loop.ops.items c.in_ok-op.op c.loop.rest.now c.in_ok-op.after.now (ops_at c.args.count [] c.args.bytes.now) c.loop-test.true found c.loop.invariant)

pub returns : goal.returns
returns c = ops_done c.args.count c.loop.counter c.loop.ops.items c.loop.rest.now (ops_at c.args.count [] c.args.bytes.now) c.loop-test.false c.loop.invariant
