use Rattle.std.proofs.Common.{◌-◌, ◌++◌, drop, get_or, length, take, sym, ap, ◌∙◌, subst, arith}
use Rattle.schedule_model.specs.Course.{courses_of}
use Rattle.schedule_rules.specs.Recovering.{StandsOnBranches, closed_by}
use Rattle.schedule_rules.proofs.Completing.{closing_more}
use Rattle.schedule_rules.proofs.ListTests.{first_split}
use Rattle.schedule_rules.proofs.completion.add_closings.Goals as goal

pub loop-rest-preserved : goal.loop-rest-preserved
loop-rest-preserved c =
    let plans = c.args.plans.now in
    let es = c.args.entries.now in
    let xs = c.loop-rest.rest.now in
    let before = c.loop-rest.added.items in
    let first = first_split xs 0 c.in-len1-up.len_at_least in
    let branches = subst (StandsOnBranches plans es) first c.loop-rest.invariant.branches in
    record {
      added =
          closing_more plans c.index-plans-i.result es (get_or xs 0 0) (take (length xs - 1) (drop 1 xs)) before c.add_closing.new.added.items _
          (omega (arith, branches.0.0, branches.0.1)) c.index-plans-i.is c.in_ok-add_closing.ensures
          (ap (λ js. before ++ closed_by (courses_of plans) es js) (sym first) ∙ c.loop-rest.invariant.added);
      branches = branches.1;
    }
