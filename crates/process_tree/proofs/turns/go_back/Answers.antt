use Rattle.std.proofs.Common.{ℕ, List, length, length-take, take, arith, ◌∙◌, sym, ap, subst}
use Rattle.process_tree.specs.Shape.{shape_of, fixed_len, last_of, IsBranch}
use Rattle.process_tree.proofs.Along.{before_goes}
use Rattle.process_tree.proofs.InTurn.{step_within}
use Rattle.process_tree.proofs.Fixed.{fixed_le}
use Rattle.process_tree.proofs.GoesBack.{commit_is, falls_alternative, alternative_goes_on, alternative_stands, stands_there, all_undone, stuck_there}
use Rattle.process_tree.proofs.turns.go_back.Goals as goal

pub fixed_len-fixed-requires-clause-branch : goal.fixed_len-fixed-requires-clause-branch
fixed_len-fixed-requires-clause-branch c =
    subst (IsBranch (shape_of c.args.tree.now)) (sym c.deref.ensures.value) (before_goes (shape_of c.args.tree.now) c.args.done.now.items c.args.step c.requires.asked)

pub slice_bounds-last_of-end : goal.slice_bounds-last_of-end
slice_bounds-last_of-end c =
    let fixed = c.fixed_len-fixed.result in
    let le = fixed_le (shape_of c.args.tree.now) c.deref.result.now in
    let same = ap length (c.deref.ensures.value ∙ sym c.deref-2.ensures.value) in
    omega (arith, length-take fixed c.deref-2.result.now, c.fixed_len-fixed.ensures)

pub fallback-requires-clause-step : goal.fallback-requires-clause-step
fallback-requires-clause-step c = step_within c.args.tree.now c.args.done.now.items c.args.step c.requires.good c.requires.asked

pub fallback-requires-clause-commit : goal.fallback-requires-clause-commit
fallback-requires-clause-commit c =
    commit_is c.args.tree.now c.args.done.now.items c.args.step c.fixed_len-fixed.result c.last_of-commit.result c.requires.good c.requires.asked
    (c.fixed_len-fixed.ensures ∙ ap (fixed_len (shape_of c.args.tree.now)) c.deref.ensures.value)
    (c.last_of-commit.ensures ∙ ap (λ (xs : List ℕ). last_of (take c.fixed_len-fixed.result xs)) c.deref-2.ensures.value)

pub come_to-requires-clause-next : goal.come_to-requires-clause-next
come_to-requires-clause-next c =
    let root = c.args.tree.now in
    let done = c.args.done.now.items in
    let falls = falls_alternative root done c.args.step c.in-Alternative.keep c.in-Alternative.to c.fallback.result c.requires.good c.requires.asked c.fallback.ensures c.in-Alternative.is in
    alternative_goes_on (shape_of root) done c.truncate.new.self.items c.args.step c.in-Alternative.keep c.in-Alternative.to falls (c.truncate.ensures.items ∙ ap (λ k. take k done) c.from.ensures)

pub returns-in-Alternative-clause-stand : goal.returns-in-Alternative-clause-stand
returns-in-Alternative-clause-stand c =
    let root = c.args.tree.now in
    let done = c.args.done.now.items in
    let falls = falls_alternative root done c.args.step c.in-Alternative.keep c.in-Alternative.to c.fallback.result c.requires.good c.requires.asked c.fallback.ensures c.in-Alternative.is in
    let stands = alternative_stands (shape_of root) done c.truncate.new.self.items c.args.step c.in-Alternative.keep c.in-Alternative.to falls (c.truncate.ensures.items ∙ ap (λ k. take k done) c.from.ensures) in
    stands_there c.come_to.new.done.items c.come_to.result _ _ c.come_to.ensures.stand stands

pub returns-in-All-clause-stand : goal.returns-in-All-clause-stand
returns-in-All-clause-stand c =
    all_undone c.args.tree.now c.args.done.now.items c.args.step c.fallback.result c.requires.good c.requires.asked c.fallback.ensures c.in-All.is

pub returns-in-Stuck-clause-stand : goal.returns-in-Stuck-clause-stand
returns-in-Stuck-clause-stand c =
    stuck_there c.args.tree.now c.args.done.now.items c.args.step c.fallback.result c.requires.good c.requires.asked c.fallback.ensures c.in-Stuck.is
