use Rattle.std.proofs.Common.{arith}
use Rattle.instance_state.proofs.Forward.{few_pending}
use Rattle.instance_state.proofs.instance.Instance.pending.Goals as goal

pub overflow_cast-result : goal.overflow_cast-result
overflow_cast-result c = omega (arith, c.pending.ensures, few_pending c.self.inside.rows.shape c.self.inside.at c.self.invariant)
