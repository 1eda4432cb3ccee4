use Rattle.process_tree.proofs.TreeLaws.{ways_are_intervals, alternatives_are_intervals}
use Rattle.process_tree.proofs.laws.alternatives_are_intervals.Goals as goal

pub returns-clause-ways : goal.returns-clause-ways
returns-clause-ways c = ways_are_intervals

pub returns-clause-alternatives : goal.returns-clause-alternatives
returns-clause-alternatives c = alternatives_are_intervals
