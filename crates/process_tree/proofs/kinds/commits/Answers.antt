use Rattle.std.proofs.Common.{◌<◌, refl, sym, ap, ◌∙◌, subst}
use Rattle.process_tree.specs.Order.{has}
use Rattle.process_tree.specs.Recovery.{forward}
use Rattle.process_tree.specs.Shape.{shape_of, branch_to, commits_by_kind, kind_of, path_through, steps_before, IsBranch}
use Rattle.process_tree.proofs.Along.{before_goes}
use Rattle.process_tree.proofs.InTurn.{kinds_count}
use Rattle.process_tree.proofs.TreeLaws.{each_step_has_a_path}
use Rattle.process_tree.proofs.kinds.commits.Goals as goal

pub fixed-commit-requires-clause-branch : goal.fixed-commit-requires-clause-branch
fixed-commit-requires-clause-branch c =
    let t = shape_of c.args.tree.now in
    let is = c.branch_to.ensures ∙ ap (λ ps. steps_before c.args.step (path_through c.args.step ps)) c.paths.ensures.paths in
    subst (IsBranch t) (sym is) (before_goes t (branch_to t c.args.step) c.args.step (each_step_has_a_path t (record { root = c.args.tree.now; good = c.requires.good; is = refl }) c.args.step (subst (λ n. c.args.step < n) (sym (kinds_count c.args.tree.now)) c.requires.step)))

pub returns-in-Cr : goal.returns-in-Cr
returns-in-Cr c =
    let t = shape_of c.args.tree.now in
    let is = c.branch_to.ensures ∙ ap (λ ps. steps_before c.args.step (path_through c.args.step ps)) c.paths.ensures.paths in
    c.commits_behind.ensures ∙ ap (λ bs. commits_by_kind (kind_of t c.args.step) (has c.args.step bs)) (c.fixed-commit.ensures.owed ∙ ap (forward t) is)
