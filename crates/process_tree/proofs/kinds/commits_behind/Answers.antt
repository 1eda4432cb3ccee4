use Rattle.std.proofs.Common.{◌<◌, sym, ◌∙◌, subst}
use Rattle.process_tree.specs.Blocks.{outline}
use Rattle.process_tree.specs.Order.{AreInOrder, Each, IsRising}
use Rattle.process_tree.proofs.Along.{told}
use Rattle.process_tree.proofs.Trees.{tree_laid_out}
use Rattle.process_tree.proofs.kinds.commits_behind.Goals as goal

pub commits_on-requires-clause-order : goal.commits_on-requires-clause-order
commits_on-requires-clause-order c = subst AreInOrder (sym c.paths.ensures.paths) (tree_laid_out c.args.tree.now c.requires.good).in_order

pub commits_on-requires-clause-rising : goal.commits_on-requires-clause-rising
commits_on-requires-clause-rising c = subst (Each IsRising) (sym c.paths.ensures.paths) (tree_laid_out c.args.tree.now c.requires.good).rising

pub commits_on-requires-clause-within : goal.commits_on-requires-clause-within
commits_on-requires-clause-within c =
    let laid = tree_laid_out c.args.tree.now c.requires.good in
    subst (Each (Each (λ b. b < c.from-count.result))) (sym c.paths.ensures.paths)
    (subst (λ n. Each (Each (λ b. b < n)) (outline c.args.tree.now).paths) (sym (c.from-count.ensures ∙ c.count.ensures.count)) laid.within)

pub returns : goal.returns
returns c =
    told c.args.tree.now c.paths.result.now c.from-count.result c.kind_of.result c.args.commit c.args.step c.commits_on.result
    c.paths.ensures.paths (c.from-count.ensures ∙ c.count.ensures.count) c.kind_of.ensures c.commits_on.ensures
