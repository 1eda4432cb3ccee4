use Rattle.core_state.proofs.TablesHoldings.{tables_stand_for}
-- What a start and a hand make of what is kept: named here so that it is checked, until the calls use it.
use Rattle.core_state.proofs.laws.tables_stand_for_holdings.Goals as goal

pub returns : goal.returns
returns c = tables_stand_for
