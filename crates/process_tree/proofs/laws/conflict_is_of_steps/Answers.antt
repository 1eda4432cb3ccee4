use Rattle.process_tree.proofs.Entries.{undo_as_step, entry_as_step}
use Rattle.process_tree.proofs.laws.conflict_is_of_steps.Goals as goal

pub returns-clause-undo : goal.returns-clause-undo
returns-clause-undo c = undo_as_step

pub returns-clause-step : goal.returns-clause-step
returns-clause-step c = entry_as_step
