use Rattle.schedule_model.proofs.StandingLaws.{ended-dont_block_undos}
use Rattle.schedule_model.proofs.laws.ended_dont_block_undos.Goals as goal

pub returns : goal.returns
returns c = ended-dont_block_undos
