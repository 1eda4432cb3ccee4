use Rattle.std.proofs.Common.{◌<◌, ◌∷◌, ◌++◌, [], length, drop, sym, ap, ◌∙◌, subst, arith, length-append}
use Rattle.process_tree.specs.Order.{Each}
use Rattle.process_tree.specs.Shape.{shape_by, last_after}
use Rattle.process_tree.proofs.Branches.{Each-among}
use Rattle.well_formed.proofs.Judging.{way_through, cut_by_none, cut_by_way}
use Rattle.well_formed.proofs.Tried.{Each-drop}
use Rattle.well_formed.proofs.judge.is_cut_off.Goals as goal

pub returns-in-None : goal.returns-in-None
returns-in-None c = cut_by_none (shape_by c.args.kinds.now c.args.paths.now) c.args.branch.now c.args.step c.requires.orderly c.requires.on (sym c.in-None.is ∙ c.way_before.ensures)

pub split_at-requires : goal.split_at-requires
split_at-requires c =
    let t = shape_by c.args.kinds.now c.args.paths.now in
    let w = c.args.branch.now in
    let e = c.in-Some.way in
    let through = way_through t w c.args.step e c.last_through-path.result.now c.requires.orderly c.requires.on (sym c.in-Some.is ∙ c.way_before.ensures) c.last_through-path.ensures in
    omega (arith, ap length through.is, length-append w (e ∷ last_after t (w ++ e ∷ [])))

pub is_sure-requires : goal.is_sure-requires
is_sure-requires c =
    let t = shape_by c.args.kinds.now c.args.paths.now in
    let q = c.last_through-path.result.now in
    let n = length c.args.kinds.now in
    let through = way_through t c.args.branch.now c.args.step c.in-Some.way q c.requires.orderly c.requires.on (sym c.in-Some.is ∙ c.way_before.ensures) c.last_through-path.ensures in
    subst (Each (λ b. b < n)) (sym c.split_at.ensures.back)
    (Each-drop (λ b. b < n) (length c.args.branch.now) q (Each-among (Each (λ b. b < n)) t.paths q c.requires.orderly.within through.with_both.among))

pub returns-in-Some : goal.returns-in-Some
returns-in-Some c =
    let t = shape_by c.args.kinds.now c.args.paths.now in
    let w = c.args.branch.now in
    c.is_sure.ensures
    ∙ cut_by_way t w c.args.step c.in-Some.way c.split_at.result.1.now c.requires.orderly c.requires.on (sym c.in-Some.is ∙ c.way_before.ensures)
    (c.split_at.ensures.back ∙ ap (drop (length w)) c.last_through-path.ensures)
