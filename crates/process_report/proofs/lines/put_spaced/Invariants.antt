use Rattle.std.proofs.Common.{◌≡◌, ◌++◌, length, map}
use Rattle.process_text.specs.Canonical.{spaced}
use Rattle.process_report.proofs.lines.put_spaced.Given as goal

abbrev pub invariant-loop-rest : goal.invariant-loop-rest
invariant-loop-rest l = l.out.items ++ spaced (map (λ w. w.now) l.rest) ≡ l.fn.out.items ++ spaced (map (λ w. w.now) l.words)

abbrev pub decreases-loop-rest : goal.decreases-loop-rest
decreases-loop-rest l = length l.rest
