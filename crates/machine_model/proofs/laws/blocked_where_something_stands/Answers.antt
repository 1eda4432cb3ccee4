use Rattle.machine_model.proofs.Clear.{blocked_where_something_stands}
use Rattle.machine_model.proofs.laws.blocked_where_something_stands.Goals as goal

pub returns : goal.returns
returns c = blocked_where_something_stands
