use Rattle.std.proofs.Common.{◌<◌, ap, sym, ◌∙◌, arith, slice_index, take, subst}
use Rattle.std.proofs.lemmas.List.{take_more}
use Rattle.process_tree.specs.Order.{IsRising}
use Rattle.process_tree.specs.Shape.{shape_by, goes_on_to}
use Rattle.process_tree.specs.Termination.{is_first_tried}
use Rattle.process_tree.proofs.Kept.{branch_rises}
use Rattle.process_tree.proofs.Onward.{branch_from}
use Rattle.well_formed.proofs.Reach.{Each-at}
use Rattle.well_formed.proofs.Standing.{on_branch, on_within, on_above}
use Rattle.well_formed.proofs.Told.{on_branch_at, along_next, rising_at}
use Rattle.well_formed.proofs.Tried.{none_early}
use Rattle.well_formed.proofs.outcomes.outcomes_to.Goals as goal

pub pass_ways-requires-clause-on : goal.pass_ways-requires-clause-on
pass_ways-requires-clause-on c =
    let t = shape_by c.args.kinds.now c.args.paths.now in
    let w = c.branch_to-branch.result.now in
    let k = c.loop-place.place in
    let on = ap (λ v. goes_on_to t v c.args.step) c.branch_to-branch.ensures ∙ c.requires.on in
    on_branch t (take k w) (slice_index w k) c.requires.orderly (on_branch_at t w c.args.step k on c.loop-place-test.true)

pub pass_ways-requires-clause-branch : goal.pass_ways-requires-clause-branch
pass_ways-requires-clause-branch c =
    let t = shape_by c.args.kinds.now c.args.paths.now in
    let w = c.branch_to-branch.result.now in
    let k = c.loop-place.place in
    let on = ap (λ v. goes_on_to t v c.args.step) c.branch_to-branch.ensures ∙ c.requires.on in
    sym (branch_from t (take k w) (slice_index w k) c.requires.orderly.in_order c.requires.orderly.rising (on_branch_at t w c.args.step k on c.loop-place-test.true))

pub pass_ways-requires-clause-first : goal.pass_ways-requires-clause-first
pass_ways-requires-clause-first c = c.loop-place.invariant.later c.loop-place.place (omega arith) c.loop-place-test.true

pub bounds-kinds-from : goal.bounds-kinds-from
bounds-kinds-from c =
    let t = shape_by c.args.kinds.now c.args.paths.now in
    let on = ap (λ v. goes_on_to t v c.args.step) c.branch_to-branch.ensures ∙ c.requires.on in
    let at = on_branch_at t c.branch_to-branch.result.now c.args.step c.loop-place.place on c.loop-place-test.true in
    let inside = on_within t _ (slice_index c.branch_to-branch.result.now c.loop-place.place) c.requires.orderly at in
    omega (arith, inside, c.from.ensures)

pub overflow_add-first : goal.overflow_add-first
overflow_add-first c =
    let t = shape_by c.args.kinds.now c.args.paths.now in
    let w = c.branch_to-branch.result.now in
    let on = ap (λ v. goes_on_to t v c.args.step) c.branch_to-branch.ensures ∙ c.requires.on in
    let below : slice_index w c.loop-place.place < c.args.step = Each-at (λ b. b < c.args.step) w c.loop-place.place (on_above t w c.args.step c.requires.orderly on) c.loop-place-test.true in
    omega (arith, below, c.ranges.step.fits)

pub loop-place-preserved : goal.loop-place-preserved
loop-place-preserved c =
    let t = shape_by c.args.kinds.now c.args.paths.now in
    let w = c.branch_to-branch.result.now in
    let k = c.loop-place.place in
    let x = slice_index w k in
    let lt = c.loop-place-test.true in
    let on = ap (λ v. goes_on_to t v c.args.step) c.branch_to-branch.ensures ∙ c.requires.on in
    let rises = subst IsRising (sym c.branch_to-branch.ensures) (branch_rises t c.args.step c.requires.orderly.rising) in
    let below : x < c.args.step = Each-at (λ b. b < c.args.step) w k (on_above t w c.args.step c.requires.orderly on) lt in
    record {
      told = along_next t w c.args.step k c.from.result c.loop-place.outcomes.items c.pass_ways.new.outcomes.items c.pass_step.new.outcomes.items _ lt c.from.ensures c.in_ok-pass_ways.ensures c.in_ok-pass_step.ensures c.loop-place.invariant.told;
      early = λ b less. ap (λ v. is_first_tried t v b) (take_more w k 0 lt) ∙ none_early t (take k w) x b c.requires.orderly.rising (omega arith);
      later = λ j from inside. let up = rising_at w k j rises (omega arith) inside in omega arith;
      within = omega arith;
    }

pub pass_ways-requires-2-clause-first : goal.pass_ways-requires-2-clause-first
pass_ways-requires-2-clause-first c = c.loop-place.invariant.within
