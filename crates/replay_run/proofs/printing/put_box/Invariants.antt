use Rattle.std.proofs.Common.{◌≡◌, ◌++◌, length}
use Rattle.process_report.specs.Lines.{text_of}
use Rattle.replay_run.specs.Boxes.{pairs_at}
use Rattle.replay_run.specs.Printed.{pairs_lines}
use Rattle.replay_run.proofs.printing.put_box.Given as goal

abbrev pub invariant-loop-rest : goal.invariant-loop-rest
invariant-loop-rest g l =
    l.out.items ++ text_of (pairs_lines l.q (pairs_at (g.B.Resource.meaning l.resource).items l.rest))
    ≡ l.fn.out.items ++ text_of (pairs_lines l.q (pairs_at (g.B.Resource.meaning l.resource).items l.keys))

abbrev pub decreases-loop-rest : goal.decreases-loop-rest
decreases-loop-rest g l = length l.rest
