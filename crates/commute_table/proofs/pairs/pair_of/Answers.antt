use Rattle.commute_table.proofs.PairWalks.{no_pair}
use Rattle.commute_table.proofs.pairs.pair_of.Goals as goal

pub returns-in_default : goal.returns-in_default
returns-in_default c = no_pair c.args.version c.args.items.now c.in_default.len_below
