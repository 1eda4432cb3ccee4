use Rattle.forgetting_model.proofs.MomentLaws.{events_lead_alike}
use Rattle.forgetting_model.proofs.laws.events_lead_alike.Goals as goal

pub returns : goal.returns
returns c = events_lead_alike
