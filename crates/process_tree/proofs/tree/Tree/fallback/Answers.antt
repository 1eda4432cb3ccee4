use Rattle.std.proofs.Common.{length, sym, ap, ◌∙◌, arith}
use Rattle.process_tree.specs.Shape.{shape_of, branch_to, path_through, steps_before, last_commit}
use Rattle.process_tree.specs.Play.{fallback_place}
use Rattle.process_tree.proofs.Fallbacks.{commit_on, look, falls_to, falls_to_nothing, falls_nowhere, branch_short}
use Rattle.process_tree.proofs.tree.Tree.fallback.Goals as goal

pub kept_len-kept-requires : goal.kept_len-kept-requires
kept_len-kept-requires c =
    let root = c.self.inside.root in
    commit_on root c.args.n c.args.commit c.branch_to-branch.result.now
    (c.requires.commit ∙ ap (λ r. last_commit (shape_of r) (branch_to (shape_of r) c.args.n)) (sym c.self.view_is))
    (c.branch_to-branch.ensures ∙ ap (λ ps. steps_before c.args.n (path_through c.args.n ps)) (c.deref.ensures.value ∙ c.self.invariant.2))

pub overflow_cast-keep : goal.overflow_cast-keep
overflow_cast-keep c =
    let root = c.self.inside.root in
    let is = c.branch_to.ensures ∙ ap (λ ps. steps_before c.in-Some.to (path_through c.in-Some.to ps)) (c.deref-in-Some.ensures.value ∙ c.self.invariant.2) in
    omega (arith, ap length is, branch_short root c.in-Some.to c.self.invariant.0)

pub returns-in-Some : goal.returns-in-Some
returns-in-Some c =
    let root = c.self.inside.root in
    let found = look root c.args.self.now c.args.n c.args.commit c.branch_to-branch.result.now c.kept_len-kept.result c.least_way.result c.self.inside.paths.items c.deref.result.now c.deref-2.result.now c.self.invariant.0 c.self.view_is c.self.invariant.2 c.deref.ensures.value c.deref-2.ensures.value c.requires.commit c.branch_to-branch.ensures c.kept_len-kept.ensures c.least_way.ensures in
    let is = c.branch_to.ensures ∙ ap (λ ps. steps_before c.in-Some.to (path_through c.in-Some.to ps)) (c.deref-in-Some.ensures.value ∙ c.self.invariant.2) in
    falls_to root c.args.n c.in-Some.to c.args.commit c.branch_to-branch.result.now c.branch_to.result.now c.kept_len-kept.result c.least_way.result found c.in-Some.is is ∙ ap (λ r. fallback_place (shape_of r) c.args.n) c.self.view_is

pub returns-in-None-commit : goal.returns-in-None-commit
returns-in-None-commit c =
    let root = c.self.inside.root in
    let found = look root c.args.self.now c.args.n c.args.commit c.branch_to-branch.result.now c.kept_len-kept.result c.least_way.result c.self.inside.paths.items c.deref.result.now c.deref-2.result.now c.self.invariant.0 c.self.view_is c.self.invariant.2 c.deref.ensures.value c.deref-2.ensures.value c.requires.commit c.branch_to-branch.ensures c.kept_len-kept.ensures c.least_way.ensures in
    falls_to_nothing root c.args.n c.args.commit c.branch_to-branch.result.now c.kept_len-kept.result c.least_way.result found c.in-None.is c.in-None-commit.is ∙ ap (λ r. fallback_place (shape_of r) c.args.n) c.self.view_is

pub returns-in-Some-commit : goal.returns-in-Some-commit
returns-in-Some-commit c =
    let root = c.self.inside.root in
    let found = look root c.args.self.now c.args.n c.args.commit c.branch_to-branch.result.now c.kept_len-kept.result c.least_way.result c.self.inside.paths.items c.deref.result.now c.deref-2.result.now c.self.invariant.0 c.self.view_is c.self.invariant.2 c.deref.ensures.value c.deref-2.ensures.value c.requires.commit c.branch_to-branch.ensures c.kept_len-kept.ensures c.least_way.ensures in
    falls_nowhere root c.args.n c.in-Some-commit.field-0 c.args.commit c.branch_to-branch.result.now c.kept_len-kept.result c.least_way.result found c.in-None.is c.in-Some-commit.is ∙ ap (λ r. fallback_place (shape_of r) c.args.n) c.self.view_is
