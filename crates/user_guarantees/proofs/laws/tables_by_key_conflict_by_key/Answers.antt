use Rattle.user_guarantees.proofs.Independent.{tables_by_key_conflict_by_key}
use Rattle.user_guarantees.proofs.laws.tables_by_key_conflict_by_key.Goals as goal

pub returns : goal.returns
returns c = tables_by_key_conflict_by_key
