use Rattle.std.proofs.Common.{◌-◌, ◌<◌, ap, arith, length, take, drop, get_or}
use Rattle.schedule_model.specs.declared.trace_step.TraceStep.TheVariants.{Move}
use Rattle.process_tree.specs.Conflicts.{do_conflict, operations_in}
use Rattle.trace_verify.proofs.NumbersKept.{as_cons, first-of}
use Rattle.trace_verify.proofs.StepsApplied.{each-applied, length-applied, outcome-next}
use Rattle.trace_verify.proofs.applying.apply_all.Goals as goal

pub loop-rest-preserved : goal.loop-rest-preserved
loop-rest-preserved c =
    let rest = c.loop-rest.rest.now in
    let step = get_or rest 0 (Move 0 0) in
    let after = take (length rest - 1) (drop 1 rest) in
    let table = do_conflict c.args.table.now in
    let old = c.loop-rest.list.items in
    let new = c.has_applied.new.list.items in
    let is = as_cons rest step c.in-len1-up.len_at_least (first-of rest (Move 0 0) c.in-len1-up.len_at_least) in
    let long = ap length is in
    let one = c.has_applied.ensures.applied c.if-not-has_applied.false in
    let shorter = length-applied table step old new one in
    record {
      outcome = outcome-next table step rest after c.loop-rest.number old new _ is one c.loop-rest.invariant.outcome;
      known = each-applied table (λ e. e.op < operations_in c.args.table.now) step old new one c.loop-rest.invariant.known;
      no_longer = omega (arith, shorter, c.loop-rest.invariant.no_longer);
      few = omega (arith, long, c.loop-rest.invariant.few);
    }
