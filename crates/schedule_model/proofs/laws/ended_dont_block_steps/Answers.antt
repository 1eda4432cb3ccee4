use Rattle.schedule_model.proofs.Aside.{ended-dont_block_steps}
use Rattle.schedule_model.proofs.laws.ended_dont_block_steps.Goals as goal

pub returns : goal.returns
returns c = ended-dont_block_steps
