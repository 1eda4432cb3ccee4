use Rattle.std.proofs.Common.{◌≡◌, ◌∙◌, ◌+◌, ◌-◌, suc, length, ap, sym, arith}
use Rattle.std.specs.Option.{option_map}
use Rattle.schedule_model.specs.declared.history.History.{History}
use Rattle.engine_steps.proofs.StartRecord.{few_plans}
use Rattle.scenario_run.specs.Reports.{cause_of, causes_in}
use Rattle.scenario_run.proofs.Causes.{told_none, told_one}
use Rattle.scenario_run.proofs.reporting.causes_of.Goals as goal

pub overflow_cast-count : goal.overflow_cast-count
overflow_cast-count g c =
    let few = few_plans c.args.engine.now.core c.invariant_holds.ensures.run in
    let plans = ap length (c.as_slice.ensures ∙ ap (λ (h : History). h.plans) c.history.ensures) in
    omega arith

pub overflow_add-i : goal.overflow_add-i
overflow_add-i g c =
    let few = few_plans c.args.engine.now.core c.invariant_holds.ensures.run in
    let plans = ap length (c.as_slice.ensures ∙ ap (λ (h : History). h.plans) c.history.ensures) in
    let less = c.loop-i-test.true in
    omega arith

pub loop-i-preserved-in-Continue-1 : goal.loop-i-preserved-in-Continue-1
loop-i-preserved-in-Continue-1 g c =
    let core = c.args.engine.now.core in
    let i = c.loop-i.i in
    let n = length c.as_slice.result.now in
    let less = c.loop-i-test.true in
    let more : n - i ≡ suc (n - (i + 1)) = omega arith in
    record {
      within = omega arith;
      causes = told_one (cause_of core) i (n - i) (n - (i + 1)) more c.loop-i.causes.items (causes_in core) c.loop-i.invariant.causes (i + 1, c.in-Some.began.cause) c.push.new.self.items
          (ap (option_map (λ b. (i + 1, b.cause))) (sym c.began.ensures ∙ c.in-Some.is)) c.in_ok-push.ensures.items;
    }

pub loop-i-preserved : goal.loop-i-preserved
loop-i-preserved g c =
    let core = c.args.engine.now.core in
    let i = c.loop-i.i in
    let n = length c.as_slice.result.now in
    let less = c.loop-i-test.true in
    let more : n - i ≡ suc (n - (i + 1)) = omega arith in
    record {
      within = omega arith;
      causes = told_none (cause_of core) i (n - i) (n - (i + 1)) more c.loop-i.causes.items (causes_in core) c.loop-i.invariant.causes
          (ap (option_map (λ b. (i + 1, b.cause))) (sym c.began.ensures ∙ c.in_default.is));
    }
