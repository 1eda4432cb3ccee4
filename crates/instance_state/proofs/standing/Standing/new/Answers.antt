use Rattle.std.proofs.Common.{◌∙◌, sym}
use Rattle.instance_state.proofs.Forward.{first_way}
use Rattle.instance_state.proofs.standing.Standing.new.Goals as goal

pub returns-clause-keeps : goal.returns-clause-keeps
returns-clause-keeps c = record { tree = c.first.ensures.tree; last_is = tt; way_is = λ _. c.first.ensures.step ∙ sym (first_way c.args.rows.now.shape) }
