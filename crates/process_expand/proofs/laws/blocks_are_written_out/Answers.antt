use Rattle.process_expand.proofs.WrittenOut.{blocks_are_written_out}
use Rattle.process_expand.proofs.laws.blocks_are_written_out.Goals as goal

pub returns : goal.returns
returns c = blocks_are_written_out
