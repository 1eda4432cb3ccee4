use Rattle.std.proofs.Common.{◌∙◌, ◌+◌, length, sym, ap}
use Rattle.process_tree.specs.declared.step.StepKind.TheVariants.{C}
use Rattle.process_tree.specs.Order.{has}
use Rattle.process_tree.specs.Recovery.{owed_behind}
use Rattle.process_tree.specs.Shape.{branch_to, commits_by_kind, kind_of, last_of, path_through, shape_of, steps_before}
use Rattle.process_tree.proofs.Along.{before_goes, owed_by_last}
use Rattle.process_tree.proofs.Trees.{tree_laid_out}
use Rattle.process_tree.specs.Play.{fallback_of}
use Rattle.schedule_model.specs.Course.{allowance_of, usual}
use Rattle.instance_state.specs.Rows.{row_of, way_of}
use Rattle.instance_state.proofs.Lists.{length_push}
use Rattle.instance_state.proofs.RowFacts.{before_has_row, branch_goes, commit_here, commits_before, fixed_here, mapped, same_row, way_here, way_of-fallback}
use Rattle.instance_state.proofs.rows.next_row.Goals as goal

pub commit_of-commit-requires : goal.commit_of-commit-requires
commit_of-commit-requires c =
    before_has_row c.args.tree.now c.paths.ensures.good c.args.n c.args.rows.now c.requires.rows c.last_of-before.result
    (c.last_of-before.ensures ∙ ap last_of (c.branch_to-branch.ensures ∙ ap (λ ps. steps_before c.args.n (path_through c.args.n ps)) c.paths.ensures.paths))

pub fallback-requires-clause-commit : goal.fallback-requires-clause-commit
fallback-requires-clause-commit c =
    (commits_before c.args.tree.now c.paths.ensures.good c.args.n c.requires.step c.args.rows.now c.requires.rows c.last_of-before.result
    (c.last_of-before.ensures ∙ ap last_of (c.branch_to-branch.ensures ∙ ap (λ ps. steps_before c.args.n (path_through c.args.n ps)) c.paths.ensures.paths))
    c.commit_of-commit.result.0 c.commit_of-commit.result.1 c.commit_of-commit.ensures.commit c.commit_of-commit.ensures.fixed c.commit_of-commit.ensures.none).commit_is

pub returns : goal.returns
returns c =
    let root = c.args.tree.now in
    let n = c.args.n in
    let t = shape_of root in
    let good = c.paths.ensures.good in
    let branch = c.branch_to-branch.ensures ∙ ap (λ ps. steps_before n (path_through n ps)) c.paths.ensures.paths in
    let before = c.last_of-before.ensures ∙ ap last_of branch in
    let commits = commits_before root good n c.requires.step c.args.rows.now c.requires.rows c.last_of-before.result before
    c.commit_of-commit.result.0 c.commit_of-commit.result.1 c.commit_of-commit.ensures.commit c.commit_of-commit.ensures.fixed c.commit_of-commit.ensures.none in
    let kind = sym (mapped (λ s. s.kind) _ n c.step-step.result.now C c.step-step.ensures) in
    let allowance = sym (mapped allowance_of _ n c.step-step.result.now usual c.step-step.ensures) in
    let after = c.step_at-after.ensures _ c.after.ensures.place in
    let other = c.way_of-other.ensures ∙ ap way_of c.fallback.ensures ∙ way_of-fallback t (branch_to t n) (fallback_of t (branch_to t n) n) in
    let len = ap (λ w. length w + 1) branch in
    let laid = tree_laid_out root good in
    let owes = ap (owed_behind t) commits.commit_is ∙ owed_by_last t laid.in_order laid.rising (branch_to t n) (before_goes t (branch_to t n) n (branch_goes root good n c.requires.step)) in
    let fixes = c.commits_behind-fixes.ensures ∙ ap (λ bs. commits_by_kind (kind_of t n) (has n bs)) owes in
    same_row _ _ _ _ _ _ _ _ _ _ _ (row_of root n) kind (ap (λ a. a.tries) allowance) (ap (λ a. a.undo_tries) allowance)
    (len ∙ sym (length_push (branch_to t n) n))
    (c.commits_with-commit.ensures.fixed
    ∙ fixed_here root n c.commit_of-commit.result.1 (length c.branch_to-branch.result.now + 1) commits.fixed_is len c.commits_behind-fixes.result fixes)
    (c.commits_with-commit.ensures.commit
    ∙ commit_here root n c.commit_of-commit.result.0 commits.commit_is c.commits_behind-fixes.result fixes)
    before after (c.step_at-last_after.ensures _ c.last_after.ensures.place) other
    (way_here root good n c.requires.step c.step_at-after.result c.way_of-other.result after other c.commits_behind-fixes.result fixes c.way_behind.result c.way_behind.ensures.some
    c.way_behind.ensures.none)
