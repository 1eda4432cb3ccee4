use Rattle.std.proofs.Common.{◌-◌, ◌++◌, drop, get_or, length, take, sym, ap, ◌∙◌, subst, arith}
use Rattle.schedule_model.specs.Course.{courses_of}
use Rattle.schedule_rules.specs.Recovering.{StandsOnBranches}
use Rattle.schedule_rules.proofs.ListTests.{first_split}
use Rattle.event_rules.specs.Held.{all_owed_among}
use Rattle.event_rules.proofs.Owing.{owed_more}
use Rattle.event_rules.proofs.held.owed_by_all.Goals as goal

pub loop-rest-preserved : goal.loop-rest-preserved
loop-rest-preserved c =
    let plans = c.args.plans.now in
    let es = c.args.entries.now in
    let xs = c.loop-rest.rest.now in
    let before = c.loop-rest.found.items in
    let first = first_split xs 0 c.in-len1-up.len_at_least in
    let branches = subst (StandsOnBranches plans es) first c.loop-rest.invariant.branches in
    record {
      found =
          owed_more plans c.index-plans-i.result es (get_or xs 0 0) (take (length xs - 1) (drop 1 xs)) before c.add_owed.new.added.items _
          (omega (arith, branches.0.0, branches.0.1)) c.index-plans-i.is c.in_ok-add_owed.ensures
          (ap (λ js. before ++ all_owed_among (courses_of plans) es js) (sym first) ∙ c.loop-rest.invariant.found);
      branches = branches.1;
    }
