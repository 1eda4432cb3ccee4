use Rattle.std.proofs.Common.{ap, sym, ◌∙◌, ◌++◌, ◌∷◌, []}
use Rattle.process_tree.specs.Blocks.{outline}
use Rattle.well_formed.proofs.Told.{kinds_next}
use Rattle.well_formed.proofs.checks.kinds_of.Goals as goal

pub loop-step-preserved : goal.loop-step-preserved
loop-step-preserved c =
    let s = c.step.result.now in
    c.in_ok-push.ensures.items ∙ ap (λ ks. ks ++ s.kind ∷ []) c.loop-step.invariant ∙ sym (kinds_next (outline c.args.tree.now).steps c.loop-step.step s c.step.ensures)
