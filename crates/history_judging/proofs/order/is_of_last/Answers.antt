use Rattle.std.proofs.Common.{sym, ◌∙◌}
use Rattle.history_judging.proofs.LastEntry.{last-is}
use Rattle.history_judging.proofs.order.is_of_last.Goals as goal

pub returns-in-len1-up : goal.returns-in-len1-up
returns-in-len1-up c = c.is_same_step.ensures ∙ sym (last-is c.args.entries.now _ c.args.entry.now c.in-len1-up.len_at_least)
