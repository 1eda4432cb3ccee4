use Rattle.user_guarantees.proofs.FewerConflicts.{looser_tables_allow_more}
use Rattle.user_guarantees.proofs.laws.looser_tables_allow_more.Goals as goal

pub returns : goal.returns
returns c = looser_tables_allow_more
