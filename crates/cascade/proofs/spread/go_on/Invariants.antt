use Rattle.std.proofs.Common.{◌≡◌, length}
use Rattle.cascade.specs.Walking.{IsOnTheWay}
use Rattle.cascade.proofs.OnTheWay.{left}
use Rattle.cascade.proofs.spread.go_on.Given as goal

abbrev pub invariant-waiting : goal.invariant-waiting
invariant-waiting l = IsOnTheWay l.holds l.root.process l.root.count l.marks × (length l.marks ≡ length l.fn.marks)

abbrev pub decreases-waiting : goal.decreases-waiting
decreases-waiting l = left l.marks
