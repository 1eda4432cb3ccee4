use Rattle.std.proofs.Common.{◌≡◌, length}
use Rattle.process_tree.specs.Paths.{behind}
use Rattle.process_tree.proofs.ways.behind.Given as goal

abbrev pub invariant-loop-rest : goal.invariant-loop-rest
invariant-loop-rest l = behind l.step l.rest ≡ behind l.step l.path

abbrev pub decreases-loop-rest : goal.decreases-loop-rest
decreases-loop-rest l = length l.rest
