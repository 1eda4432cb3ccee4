use Rattle.schedule_model.proofs.ClassFacts.{class-facts}
use Rattle.schedule_model.proofs.laws.class_facts_hold.Goals as goal

pub returns : goal.returns
returns c = class-facts
