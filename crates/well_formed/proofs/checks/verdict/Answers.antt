use Rattle.std.proofs.Common.{ap, subst, sym, ◌∙◌}
use Rattle.process_tree.specs.Shape.{shape_by, shape_of}
use Rattle.well_formed.specs.Flaws.{IsOrderly}
use Rattle.well_formed.proofs.Told.{orderly}
use Rattle.well_formed.proofs.checks.verdict.Goals as goal

pub verdict_by-requires : goal.verdict_by-requires
verdict_by-requires c =
    let kinds = c.deref.ensures.value ∙ c.in_ok-kinds.ensures in
    let paths = c.paths.ensures.paths in
    let same = ap (λ ks. shape_by ks c.paths.result.now) kinds ∙ ap (λ ps. shape_by (shape_of c.args.tree.now).kinds ps) paths in
    subst IsOrderly (sym same) (orderly c.args.tree.now c.paths.ensures.good)
