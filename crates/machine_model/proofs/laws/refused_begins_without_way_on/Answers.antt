use Rattle.machine_model.proofs.OwnEvents.{refused_begins_without_way_on}
use Rattle.machine_model.proofs.laws.refused_begins_without_way_on.Goals as goal

pub returns : goal.returns
returns c = refused_begins_without_way_on
