use Rattle.std.proofs.Common.{◌<◌, take, length, get_or, sym, ◌∙◌, subst}
use Rattle.std.specs.Option.{IfSome}
use Rattle.process_tree.specs.Blocks.{outline}
use Rattle.process_tree.specs.Shape.{shape_of}
use Rattle.process_tree.proofs.Along.{goes_here, walk_commits, walk_passes}
use Rattle.process_tree.proofs.GoesBack.{done_is}
use Rattle.process_tree.proofs.InTurn.{step_within}
use Rattle.process_tree.proofs.kinds.fixed.Goals as goal
use Rattle.process_tree.proofs.kinds.fixed.Goals.{then-commits_behind, else-commits_behind}

pub commits_behind-requires-clause-step : goal.commits_behind-requires-clause-step
commits_behind-requires-clause-step c =
    step_within c.args.tree.now (take c.loop-place.place c.args.steps.now) (get_or c.args.steps.now c.loop-place.place 0) c.requires.good
    (goes_here (shape_of c.args.tree.now) c.args.steps.now c.loop-place.place c.loop-place-test.true c.requires.branch)

pub loop-place-preserved : goal.loop-place-preserved
loop-place-preserved c =
    let root = c.args.tree.now in
    let t = shape_of root in
    let w = c.args.steps.now in
    let place = c.loop-place.place in
    let lt = c.loop-place-test.true in
    let here = get_or w place 0 in
    let on = goes_here t w place lt c.requires.branch in
    elim c.if-commits_behind.branch [
      | then-commits_behind f ↦
          let more = walk_commits t w place lt c.loop-place.fixed c.if-commits_behind.fixed _ c.loop-place.commit c.if-commits_behind.commit c.loop-place.invariant.walked
          (done_is root (take place w) here c.requires.good on) (sym c.commits_behind.ensures ∙ f.if-commits_behind.true) f.fixed-is f.commit-is c.loop-place.invariant.fixed in
          record {
            fixed = more.0;
            walked = more.1;
            within = subst (λ o. IfSome o (λ b. b < length (outline root).steps)) (sym f.commit-is) (step_within root (take place w) here c.requires.good on);
          }
      | else-commits_behind f ↦
          let more = walk_passes t w place lt c.loop-place.fixed c.if-commits_behind.fixed _ c.loop-place.commit c.if-commits_behind.commit c.loop-place.invariant.walked
          (sym c.commits_behind.ensures ∙ f.if-commits_behind.false) f.fixed-is f.commit-is c.loop-place.invariant.fixed in
          record {
            fixed = more.0;
            walked = more.1;
            within = subst (λ o. IfSome o (λ b. b < length (outline root).steps)) (sym f.commit-is) c.loop-place.invariant.within;
          }
    ]
