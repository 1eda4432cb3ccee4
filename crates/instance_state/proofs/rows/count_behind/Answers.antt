use Rattle.std.proofs.Common.{◌++◌, ◌∷◌, [], arith}
use Rattle.process_tree.specs.Shape.{branch_to, shape_of}
use Rattle.instance_state.proofs.CountedSteps.{comes_within, counts_more, fewer_left, few_passed}
use Rattle.instance_state.proofs.rows.count_behind.Goals as goal

pub overflow_add-count : goal.overflow_add-count
overflow_add-count c =
    let few = few_passed c.args.tree.now c.last_after-place.ensures.good (branch_to (shape_of c.args.tree.now) c.args.step ++ c.args.step ∷ []) c.behind.count c.behind.place c.behind.invariant in
    omega arith

pub last_after-place-requires-in-Step : goal.last_after-place-requires-in-Step
last_after-place-requires-in-Step c =
    comes_within c.args.tree.now c.last_after-place.ensures.good (branch_to (shape_of c.args.tree.now) c.args.step ++ c.args.step ∷ []) c.behind.count c.behind.place c.behind.invariant c.in-Step.next c.in-Step.is

pub behind-smaller : goal.behind-smaller
behind-smaller c =
    fewer_left c.args.tree.now c.last_after-place.ensures.good (branch_to (shape_of c.args.tree.now) c.args.step ++ c.args.step ∷ []) c.behind.count c.behind.place c.behind.invariant c.in-Step.next c.in-Step.is c.last_after-place-in-Step.result c.last_after-place-in-Step.ensures.place

pub behind-preserved : goal.behind-preserved
behind-preserved c =
    counts_more c.args.tree.now c.last_after-place.ensures.good (branch_to (shape_of c.args.tree.now) c.args.step ++ c.args.step ∷ []) c.behind.count c.behind.place c.behind.invariant c.in-Step.next c.in-Step.is c.last_after-place-in-Step.result c.last_after-place-in-Step.ensures.place
