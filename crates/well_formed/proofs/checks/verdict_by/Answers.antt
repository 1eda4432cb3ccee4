use Rattle.std.proofs.Common.{subst}
use Rattle.process_tree.specs.Shape.{shape_by}
use Rattle.well_formed.specs.Flaws.{IsJudged}
use Rattle.well_formed.proofs.Told.{told_good, told_unreachable, told_stuck}
use Rattle.well_formed.proofs.checks.verdict_by.Goals as goal

pub returns-in-None : goal.returns-in-None
returns-in-None c =
    let t = shape_by c.args.kinds.now c.args.paths.now in
    told_good t c.requires (subst (IsJudged t) c.in-None.is c.first_flaw.ensures)

pub returns-in-CutOff : goal.returns-in-CutOff
returns-in-CutOff c =
    let t = shape_by c.args.kinds.now c.args.paths.now in
    told_unreachable t c.in-Some.flawed c.requires (subst (IsJudged t) c.in-Some.is c.first_flaw.ensures) c.in-CutOff.is

pub returns-in_ok-outcomes-in-DeadEnd : goal.returns-in_ok-outcomes-in-DeadEnd
returns-in_ok-outcomes-in-DeadEnd c =
    let t = shape_by c.args.kinds.now c.args.paths.now in
    told_stuck t c.in-Some.flawed c.in_ok-outcomes-in-DeadEnd.outcomes c.requires (subst (IsJudged t) c.in-Some.is c.first_flaw.ensures) c.in-DeadEnd.is c.in_ok-outcomes-in-DeadEnd.ensures
