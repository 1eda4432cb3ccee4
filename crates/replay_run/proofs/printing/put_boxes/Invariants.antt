use Rattle.std.proofs.Common.{◌≡◌, ◌+◌, ◌++◌, length}
use Rattle.process_report.specs.Lines.{text_of}
use Rattle.replay_run.specs.Boxes.{boxes_lines}
use Rattle.replay_run.proofs.printing.put_boxes.Given as goal

abbrev pub invariant-loop-rest : goal.invariant-loop-rest
invariant-loop-rest g l = record {
  told : l.out.items ++ text_of (boxes_lines (λ b. (g.B.Resource.meaning b).items) l.keys l.q l.rest)
      ≡ l.fn.out.items ++ text_of (boxes_lines (λ b. (g.B.Resource.meaning b).items) l.keys 0 l.boxes);
  count : l.q + length l.rest ≡ length l.boxes;
}

abbrev pub decreases-loop-rest : goal.decreases-loop-rest
decreases-loop-rest g l = length l.rest
