use Rattle.std.proofs.Common.{length, ap, arith}
use Rattle.process_core.proofs.FewKept.{kept_few}
use Rattle.engine_steps.proofs.engines.Engine.not_closed.Goals as goal

pub overflow_cast-result : goal.overflow_cast-result
overflow_cast-result g c =
    let few = kept_few c.self.inside.core c.run_holds.ensures in
    let is = ap length c.kept.ensures in
    omega arith
