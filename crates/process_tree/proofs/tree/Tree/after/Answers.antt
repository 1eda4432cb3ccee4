use Rattle.std.proofs.Common.{Some, ap, ◌∙◌}
use Rattle.std.specs.List.{filter_map}
use Rattle.process_tree.specs.Shape.{shape_of, least}
use Rattle.process_tree.specs.Paths.{step_behind}
use Rattle.process_tree.specs.Recovery.{place_of, place_after}
use Rattle.process_tree.proofs.Trees.{place_behind}
use Rattle.process_tree.proofs.tree.Tree.after.Goals as goal

pub returns-clause-place : goal.returns-clause-place
returns-clause-place c =
    let root = c.self.inside.root in
    let good = c.self.invariant.0 in
    let view = c.self.view_is in
    c.place_of.ensures
    ∙ ap place_of (c.least_behind.ensures ∙ ap (λ ps. least (filter_map (step_behind (Some c.args.n)) ps)) (c.deref.ensures.value ∙ c.self.invariant.2))
    ∙ place_behind root c.args.n good
    ∙ ap (λ r. place_after (shape_of r) c.args.n) view
