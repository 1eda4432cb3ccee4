use Rattle.std.proofs.Common.{arith}
use Rattle.process_tree.proofs.SharedSteps.{shared-past}
use Rattle.process_tree.proofs.ways.shared.Goals as goal

pub returns-else-count-path-clause-count : goal.returns-else-count-path-clause-count
returns-else-count-path-clause-count c = omega (arith, shared-past c.args.branch.now c.args.path.now c.loop-count.count c.if-count-path.false)
