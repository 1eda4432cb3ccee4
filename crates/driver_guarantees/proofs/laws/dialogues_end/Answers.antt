use Rattle.driver_guarantees.proofs.DialogueEnds.{dialogues_end}
use Rattle.driver_guarantees.proofs.laws.dialogues_end.Goals as goal

pub returns : goal.returns
returns c = dialogues_end
