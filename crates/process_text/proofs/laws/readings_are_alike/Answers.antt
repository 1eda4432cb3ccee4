use Rattle.process_text.proofs.Reprinted.{readings_are_alike}
use Rattle.process_text.proofs.laws.readings_are_alike.Goals as goal

pub returns : goal.returns
returns c = readings_are_alike
