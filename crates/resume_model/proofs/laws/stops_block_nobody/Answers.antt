use Rattle.resume_model.proofs.StopsFree.{stops_block_nobody}
use Rattle.resume_model.proofs.laws.stops_block_nobody.Goals as goal

pub returns : goal.returns
returns c = stops_block_nobody
