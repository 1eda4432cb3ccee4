use Rattle.std.proofs.Common.{◌≡◌, length}
use Rattle.refusal_hints.specs.Near.{is_near}
use Rattle.refusal_hints.proofs.near.is_near.Given as goal

abbrev pub invariant-loop-a : goal.invariant-loop-a
invariant-loop-a l = is_near l.a l.b ≡ is_near l.name l.other

abbrev pub decreases-loop-a : goal.decreases-loop-a
decreases-loop-a l = length l.a
