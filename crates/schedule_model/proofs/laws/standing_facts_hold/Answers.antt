use Rattle.schedule_model.proofs.StandingLaws.{standing-facts}
use Rattle.schedule_model.proofs.laws.standing_facts_hold.Goals as goal

pub returns : goal.returns
returns c = standing-facts
