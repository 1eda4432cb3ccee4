use Rattle.std.proofs.Common.{◌≡◌, ◌++◌, length}
use Rattle.driver_answers.specs.Serving.{listed}
use Rattle.driver_answers.proofs.listing.put_pieces.Given as goal

-- what is written, and the lines of those that are left
abbrev pub invariant-loop-rest : goal.invariant-loop-rest
invariant-loop-rest l = l.out.items ++ listed l.h.plans l.rest ≡ l.fn.out.items ++ listed l.h.plans l.pieces

abbrev pub decreases-loop-rest : goal.decreases-loop-rest
decreases-loop-rest l = length l.rest
