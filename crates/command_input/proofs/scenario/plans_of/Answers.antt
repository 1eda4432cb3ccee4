use Rattle.std.proofs.Common.{◌≡◌, [], arith}
use Rattle.std.proofs.lemmas.List.{nil_from_length}
use Rattle.std.specs.Vec.Iter.{into_iter_items}
use Rattle.command_input.proofs.Planning.{planned_on, unplanned_on, planned_all}
use Rattle.command_input.proofs.scenario.plans_of.Goals as goal

pub loop-process-preserved : goal.loop-process-preserved
loop-process-preserved c =
    let ops = c.args.c.now.ops in
    let all = c.args.processes.items in
    let rest = into_iter_items c.loop-process.rest in
    let later = into_iter_items c.next.new.self in
    let p = c.in-Some.process in
    let plan = c.in_ok-plan.plan in
    record {
      planned = planned_on ops all rest later p c.in-Some.ensures.cases.0 plan c.in_ok-plan.ensures.plan c.loop-process.plans.items c.push.new.self.items c.in_ok-push.ensures.items c.loop-process.invariant.planned;
      unplanned = unplanned_on ops all rest later p c.in-Some.ensures.cases.0 plan c.in_ok-plan.ensures.plan c.loop-process.invariant.unplanned;
    }

pub returns-clause-plans : goal.returns-clause-plans
returns-clause-plans c =
    let none : into_iter_items c.loop-process.rest ≡ [] = nil_from_length _ (omega (arith, c.loop-process.rest.rest.ok.0, c.in_default.ensures.len, c.in_default.ensures.cases.0)) in
    planned_all c.args.c.now.ops c.args.processes.items (into_iter_items c.loop-process.rest) c.loop-process.plans.items none c.loop-process.invariant.planned
