use Rattle.commute_table.proofs.PairWalks.{many_behind}
use Rattle.commute_table.proofs.pairs.mode_behind.Goals as goal

pub returns-in_default : goal.returns-in_default
returns-in_default c = many_behind c.args.version c.args.items.now c.in_default.len_at_least
