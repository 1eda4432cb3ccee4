-- The laws of trees, as they are stated.
use Rattle.std.proofs.Common.{◌≡◌, ℕ, ◌<◌, None, [], ◌∷◌, ◌++◌, length, subst, sym, ap, ◌∙◌, arith}
use Rattle.process_tree.specs.declared.block.Block.{Block}
use Rattle.process_tree.specs.Blocks.{outline}
use Rattle.process_tree.specs.Making.{tree_fault}
use Rattle.process_tree.specs.Order.{IsLaidOut}
use Rattle.process_tree.specs.Shape.{Shape, shape_of, goes_on_to}
use Rattle.process_tree.specs.Laws.{IsTreeShape, PathsLieInOrder, PathsPart, EachStepHasAPath, OneBranchToAStep, StepsGoUp, WholePathsEnd, EndsAreWhole, WaysAreIntervals, AlternativesAreIntervals, NextStepsHaveAClass, OwedStepsAreNotRefused, CommitPointsStay, CommitPointsGrow}
use Rattle.process_tree.proofs.Branches.{branch_is}
use Rattle.process_tree.proofs.Onward.{onward_self, goes_on, branch_from}
use Rattle.process_tree.proofs.Trees.{tree_laid_out, none_odd}
use Rattle.process_tree.proofs.InTurn.{kinds_count, goes_up, goes_within}
use Rattle.process_tree.proofs.Covered.{OnSomePath, covered}
use Rattle.process_tree.proofs.Wholes.{whole_among, paths_part, whole_ends, end_is_whole}
use Rattle.process_tree.proofs.Intervals.{in_between}
use Rattle.process_tree.proofs.Between.{between_ways}
use Rattle.process_tree.proofs.Classes.{has_class, owed_not_refused}
use Rattle.process_tree.proofs.Fixed.{fixed_stays, fixed_more}

-- of the shape of a block
shape_lies : (root : Block) → tree_fault root ≡ None → IsLaidOut (length (shape_of root).kinds) (shape_of root).paths
shape_lies root good =
    subst (λ c. IsLaidOut c (outline root).paths) (sym (kinds_count root)) (tree_laid_out root good)

pub paths_lie_in_order : PathsLieInOrder
paths_lie_in_order t tree = subst (λ s. IsLaidOut (length s.kinds) s.paths) (sym tree.is) (shape_lies tree.root tree.good)

pub paths_of_trees_part : PathsPart
paths_of_trees_part t tree p q whole_p whole_q =
    paths_part t.paths p q (paths_lie_in_order t tree).in_order (whole_among p t.paths whole_p) (whole_among q t.paths whole_q)

-- each step of a block's shape is on a path
on_path : (root : Block) → tree_fault root ≡ None → (b : ℕ) → b < length (shape_of root).kinds → OnSomePath b (shape_of root).paths
on_path root good b lt = (covered (root) (none_odd root good)).each b (let e = kinds_count root in omega arith)

pub step_on_path : (t : Shape) → IsTreeShape t → (b : ℕ) → b < length t.kinds → OnSomePath b t.paths
step_on_path t tree b lt =
    subst (λ s. OnSomePath b s.paths) (sym tree.is) (on_path tree.root tree.good b (subst (λ s. b < length s.kinds) tree.is lt))

pub each_step_has_a_path : EachStepHasAPath
each_step_has_a_path t tree b lt =
    let laid = paths_lie_in_order t tree in
    let on = step_on_path t tree b lt in
    let is = branch_is t b on.0 laid.in_order laid.rising on.1 on.2 in
    ap (λ v. goes_on_to t v b) is ∙ goes_on t _ b on.0 on.1 (onward_self b on.0 on.2)

pub one_branch_to_a_step : OneBranchToAStep
one_branch_to_a_step t tree v b on =
    let laid = paths_lie_in_order t tree in
    branch_from t v b laid.in_order laid.rising on

pub steps_go_up : StepsGoUp
steps_go_up t tree v a b on =
    let laid = paths_lie_in_order t tree in
    (goes_up t v a b laid.rising on, goes_within t (length t.kinds) (v ++ a ∷ []) b laid.within on)

pub whole_paths_end : WholePathsEnd
whole_paths_end t tree w whole = whole_ends t w (paths_lie_in_order t tree).in_order whole

pub ends_are_whole : EndsAreWhole
ends_are_whole t tree v b on none = end_is_whole t v b on none

pub alternatives_are_intervals : AlternativesAreIntervals
alternatives_are_intervals t tree v d e first b last lt in_first in_last le ge =
    between_ways t v d e first b last (paths_lie_in_order t tree) (step_on_path t tree first (omega arith)) (step_on_path t tree b (omega arith)) (step_on_path t tree last lt) in_first in_last le ge

pub ways_are_intervals : WaysAreIntervals
ways_are_intervals t tree v d first b last lt in_first in_last le ge =
    in_between t v d first b last (paths_lie_in_order t tree) (step_on_path t tree first (omega arith)) (step_on_path t tree b (omega arith)) (step_on_path t tree last lt) in_first in_last le ge

pub next_steps_have_a_class : NextStepsHaveAClass
next_steps_have_a_class t tree well w d on = has_class t (paths_lie_in_order t tree) well w d on

pub owed_steps_are_not_refused : OwedStepsAreNotRefused
owed_steps_are_not_refused t tree well w b on = owed_not_refused t (paths_lie_in_order t tree) well w b on

pub commit_points_stay : CommitPointsStay
commit_points_stay = fixed_stays

pub commit_points_grow : CommitPointsGrow
commit_points_grow = fixed_more
