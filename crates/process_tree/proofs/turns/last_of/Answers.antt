use Rattle.std.proofs.Common.{◌∙◌, sym}
use Rattle.process_tree.proofs.InTurn.{last_or-none, last_or-end}
use Rattle.process_tree.proofs.turns.last_of.Goals as goal

pub returns : goal.returns
returns c = sym (last_or-end c.loop-rest.last c.loop-rest.rest.now c.in_default.len_below) ∙ c.loop-rest.invariant ∙ last_or-none c.args.steps.now
