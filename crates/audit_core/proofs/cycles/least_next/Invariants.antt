use Rattle.std.proofs.Common.{◌<◌, ◌-◌, ℕ}
use Rattle.audit_core.specs.Arrows.{IsNext, columns}
use Rattle.audit_core.proofs.cycles.least_next.Given as goal

abbrev pub invariant-loop-k : goal.invariant-loop-k
invariant-loop-k l = (k : ℕ) → k < l.k → IsNext l.rows l.set l.i k → ⊥

abbrev pub decreases-loop-k : goal.decreases-loop-k
decreases-loop-k l = columns - l.k
