use Rattle.process_tree.proofs.Entries.{between_processes}
use Rattle.process_tree.proofs.laws.conflict_is_between_processes.Goals as goal

pub returns : goal.returns
returns c = between_processes
