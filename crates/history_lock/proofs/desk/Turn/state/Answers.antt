use Rattle.std.proofs.Common.{refl, []}
use mir.Syntax.{named}
use Rattle.history_lock.specs.contracts.desk.Turn.{the_row}
use Rattle.history_lock.proofs.desk.Turn.state.Goals as goal

pub returns : goal.returns
returns g c = ((refl, λ w. (the_row (record { mir = named 1; lft = [] }) g.row.S g.row.S-Entry g.S.Held).coded.inj _ _ refl), record { writes_back = tt; value = refl })
