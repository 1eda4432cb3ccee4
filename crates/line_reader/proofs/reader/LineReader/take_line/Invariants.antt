use Rattle.std.proofs.Common.{◌≡◌, ◌⊎◌, ◌≤◌, length, None}
use Rattle.trace_verify.specs.Lines.{cut}
use Rattle.line_reader.specs.Taking.{most_ahead}
use Rattle.line_reader.proofs.UnderWay.{IsUnderWay}
use Rattle.line_reader.proofs.reader.LineReader.take_line.Given as goal

-- the source was called only where no line stood ready
abbrev pub invariant-loop : goal.invariant-loop
invariant-loop g l = record {
  under_way : IsUnderWay l.most l.fn.self l.self (g.S.Source.left l.fn.source) (g.S.Source.left l.source) l.line.items;
  called : (cut 10 l.fn.self ≡ None) ⊎ ((l.self ≡ l.fn.self) × (l.source ≡ l.fn.source));
  quiet : g.S.Source.faults l.source ≡ g.S.Source.faults l.fn.source;
  little : length l.self ≤ most_ahead;
}
