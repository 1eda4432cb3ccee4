use Rattle.machine_model.proofs.WholeLaws.{standing_facts_hold}
use Rattle.machine_model.proofs.laws.standing_facts_hold.Goals as goal

pub returns : goal.returns
returns c = standing_facts_hold
