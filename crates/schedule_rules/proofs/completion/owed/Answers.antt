use Rattle.std.proofs.Common.{◌∙◌, arith}
use Rattle.process_tree.specs.Shape.{shape_of}
use Rattle.process_tree.proofs.Fixed.{fixed_le}
use Rattle.schedule_rules.proofs.Branches.{last_within_of, owed_behind_of}
use Rattle.schedule_rules.proofs.completion.owed.Goals as goal

pub split_at-requires : goal.split_at-requires
split_at-requires c = let le = fixed_le (shape_of c.args.plan.now.tree) c.args.steps.now in omega (arith, c.fixed_len-fixed.ensures)

pub completion-requires : goal.completion-requires
completion-requires c =
    last_within_of c.args.plan.now.tree c.requires.good c.args.steps.now c.requires.branch c.fixed_len-fixed.result c.fixed_len-fixed.ensures
    c.split_at.result.0.now c.split_at.ensures.front 0 c.in-len1-up.len_at_least

pub returns-in_ok-places-in-len1-up : goal.returns-in_ok-places-in-len1-up
returns-in_ok-places-in-len1-up c =
    c.into_items.ensures
    ∙ (c.in_ok-places-in-len1-up.ensures
    ∙ owed_behind_of c.args.plan.now.tree c.requires.good c.args.steps.now c.requires.branch c.fixed_len-fixed.result c.fixed_len-fixed.ensures
    c.split_at.result.0.now c.split_at.ensures.front 0 c.in-len1-up.len_at_least)
