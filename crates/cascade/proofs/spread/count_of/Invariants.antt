use Rattle.std.proofs.Common.{◌≡◌, ◌+◌, ◌≤◌, length, drop}
use Rattle.schedule_model.specs.Histories.{of_process}
use Rattle.cascade.proofs.spread.count_of.Given as goal

abbrev pub invariant-places : goal.invariant-places
invariant-places l = (l.place ≤ length l.holds.net) × (l.count ≡ length (of_process l.process (drop l.place l.holds.net))) × (l.count + l.place ≤ length l.holds.net)

abbrev pub decreases-places : goal.decreases-places
decreases-places l = l.place
