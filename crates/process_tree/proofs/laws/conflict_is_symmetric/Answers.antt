use Rattle.process_tree.proofs.Tables.{mode_of-symmetric, do_conflict-symmetric}
use Rattle.process_tree.proofs.Entries.{both_ways}
use Rattle.process_tree.proofs.laws.conflict_is_symmetric.Goals as goal

pub returns-clause-modes : goal.returns-clause-modes
returns-clause-modes c = mode_of-symmetric

pub returns-clause-accesses : goal.returns-clause-accesses
returns-clause-accesses c = do_conflict-symmetric

pub returns-clause-entries : goal.returns-clause-entries
returns-clause-entries c = both_ways
