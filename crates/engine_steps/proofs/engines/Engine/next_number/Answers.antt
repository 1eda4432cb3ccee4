use Rattle.std.proofs.Common.{length, ap, arith}
use Rattle.engine_steps.proofs.StartRecord.{few_plans}
use Rattle.engine_steps.proofs.engines.Engine.next_number.Goals as goal

pub overflow_cast-result : goal.overflow_cast-result
overflow_cast-result g c =
    let few = few_plans c.self.inside.core c.run_holds.ensures in
    let is = ap length c.as_slice.ensures in
    let same = ap length c.history.ensures.plans in
    omega arith

pub overflow_add-result : goal.overflow_add-result
overflow_add-result g c =
    let few = few_plans c.self.inside.core c.run_holds.ensures in
    let is = ap length c.as_slice.ensures in
    let same = ap length c.history.ensures.plans in
    omega arith
