use Rattle.std.proofs.Common.{arith}
use Rattle.instance_state.proofs.Lists.{last_of_is}
use Rattle.instance_state.proofs.rows.last_of.Goals as goal

pub returns-in-len1-up : goal.returns-in-len1-up
returns-in-len1-up c = let some = c.in-len1-up.len_at_least in last_of_is c.args.steps.now _ 0 (omega arith)
