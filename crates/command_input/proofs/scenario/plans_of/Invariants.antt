use Rattle.std.proofs.Common.{List, ◌++◌, length}
use Rattle.std.specs.Vec.Iter.{into_iter_items}
use Rattle.process_tree.specs.declared.plan.Plan.{Plan}
use Rattle.command_refusals.specs.declared.refusal.Refusal.{Refusal}
use Rattle.command_input.specs.Scenarios.{ArePlansOf, AreNoPlans}
use Rattle.command_input.proofs.scenario.plans_of.Given as goal

abbrev pub invariant-loop-process : goal.invariant-loop-process
invariant-loop-process l = record {
  planned : (plans : List Plan) → ArePlansOf l.c.ops (into_iter_items l.rest) plans → ArePlansOf l.c.ops l.fn.processes.items (l.plans.items ++ plans);
  unplanned : (r : Refusal) → AreNoPlans l.c.ops (into_iter_items l.rest) r → AreNoPlans l.c.ops l.fn.processes.items r;
}

abbrev pub decreases-loop-process : goal.decreases-loop-process
decreases-loop-process l = length (into_iter_items l.rest)
