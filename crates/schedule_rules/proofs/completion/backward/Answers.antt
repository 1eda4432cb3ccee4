use Rattle.std.proofs.Common.{◌≡◌, length, sym, ap, ◌∙◌, subst, arith}
use Rattle.process_tree.specs.Shape.{shape_of, IsBranch}
use Rattle.process_tree.proofs.Fixed.{fixed_le}
use Rattle.schedule_model.specs.Histories.{steps_of}
use Rattle.schedule_model.proofs.Recoveries.{steps_count}
use Rattle.schedule_rules.proofs.completion.backward.Goals as goal

pub fixed_len-fixed-requires-clause-branch : goal.fixed_len-fixed-requires-clause-branch
fixed_len-fixed-requires-clause-branch c =
    let steps = c.deref-2.ensures.value ∙ (c.in_ok-steps.ensures ∙ ap steps_of (c.deref.ensures.value ∙ c.in_ok-own.ensures)) in
    subst (IsBranch (shape_of c.args.plan.now.tree)) (sym steps) c.requires.branch

pub split_at-requires : goal.split_at-requires
split_at-requires c =
    let le = fixed_le (shape_of c.args.plan.now.tree) c.deref-2.result.now in
    let many : length c.deref-2.result.now ≡ length c.deref-3.result.now = ap length (c.deref-2.ensures.value ∙ c.in_ok-steps.ensures) ∙ (steps_count c.deref.result.now ∙ ap length (c.deref.ensures.value ∙ sym c.deref-3.ensures.value)) in
    omega (arith, c.fixed_len-fixed.ensures, le, many)
