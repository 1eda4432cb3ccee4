use Rattle.std.proofs.Common.{length, arith}
use Rattle.scenario_warnings.specs.Warnings.{commuting, unused}
use Rattle.scenario_warnings.proofs.Numbers.{one_more, all_there, whole}
use Rattle.scenario_warnings.proofs.finding.add_operation.Goals as goal

pub loop-b-preserved : goal.loop-b-preserved
loop-b-preserved c =
    one_more (commuting c.args.c.now c.args.a) _ _ _ c.loop-b.b c.args.count (omega arith) c.loop-b.invariant c.in_ok-add_pair.ensures

pub returns : goal.returns
returns c =
    whole (commuting c.args.c.now c.args.a) c.loop-b.out.items c.args.out.now.items (unused c.args.plans.now c.args.a) c.args.a c.args.count (length c.args.c.now.ops)
    (all_there (commuting c.args.c.now c.args.a) _ _ c.loop-b.b c.args.count (omega arith) c.loop-b.invariant) c.requires.count
