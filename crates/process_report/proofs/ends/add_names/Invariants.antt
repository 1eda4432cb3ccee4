use Rattle.std.proofs.Common.{◌≡◌, ◌++◌, length, map}
use Rattle.process_report.specs.Names.{step_name}
use Rattle.process_report.proofs.ends.add_names.Given as goal

abbrev pub invariant-loop-rest : goal.invariant-loop-rest
invariant-loop-rest l = map (λ w. w.now) l.words.items ++ map (step_name l.plans l.i) l.rest ≡ map (λ w. w.now) l.fn.words.items ++ map (step_name l.plans l.i) l.steps

abbrev pub decreases-loop-rest : goal.decreases-loop-rest
decreases-loop-rest l = length l.rest
