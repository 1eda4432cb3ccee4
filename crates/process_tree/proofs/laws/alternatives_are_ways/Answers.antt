use Rattle.process_tree.proofs.LaterWays.{later_ways_are_later_alternatives}
use Rattle.process_tree.proofs.Alternatives.{alternatives_are_ways, alternatives_fall_in_turn}
use Rattle.process_tree.proofs.laws.alternatives_are_ways.Goals as goal

pub returns-clause-ways : goal.returns-clause-ways
returns-clause-ways c = alternatives_are_ways

pub returns-clause-falls : goal.returns-clause-falls
returns-clause-falls c = alternatives_fall_in_turn

pub returns-clause-later : goal.returns-clause-later
returns-clause-later c = later_ways_are_later_alternatives
