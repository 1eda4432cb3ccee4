use Rattle.process_text.proofs.TextFound.{reading_or_fault}
use Rattle.process_text.proofs.laws.each_text_has_a_reading_or_a_fault.Goals as goal

pub returns : goal.returns
returns c = reading_or_fault c.args._alloc
