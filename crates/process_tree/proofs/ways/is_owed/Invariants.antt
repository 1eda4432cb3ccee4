use Rattle.process_tree.specs.Recovery.{place_of}
use Rattle.process_tree.specs.Stands.{left_from}
use Rattle.process_tree.proofs.Along.{LeadsOn}
use Rattle.process_tree.proofs.ways.is_owed.Given as goal

abbrev pub invariant-loop-next : goal.invariant-loop-next
invariant-loop-next l = record { leads : LeadsOn l.paths l.count l.commit l.step l.next }

abbrev pub decreases-loop-next : goal.decreases-loop-next
decreases-loop-next l = left_from l.count (place_of l.next)
