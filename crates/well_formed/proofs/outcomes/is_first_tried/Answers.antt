use Rattle.std.proofs.Common.{◌<◌, drop, length, sym, ap, ◌∙◌, subst}
use Rattle.process_tree.specs.Order.{Each}
use Rattle.process_tree.specs.Shape.{shape_by, branch_to}
use Rattle.process_tree.proofs.Kept.{branch_within}
use Rattle.well_formed.proofs.Tried.{Each-drop}
use Rattle.well_formed.proofs.outcomes.is_first_tried.Goals as goal

pub can_any_be_refused-requires : goal.can_any_be_refused-requires
can_any_be_refused-requires c =
    let t = shape_by c.args.kinds.now c.args.paths.now in
    let n = length c.args.kinds.now in
    let is = c.split_at.ensures.back ∙ ap (drop (length c.args.branch.now)) c.branch_to-own.ensures in
    subst (Each (λ b. b < n)) (sym is) (Each-drop (λ b. b < n) (length c.args.branch.now) (branch_to t c.args.step) (branch_within t c.args.step n c.requires.orderly.within))
