use Rattle.std.proofs.Common.{◌≡◌, ◌+◌, ◌≤◌, length}
use Rattle.trace_verify.specs.Lines.{parts}
use Rattle.trace_verify.specs.Reports.{reading_from}
use Rattle.trace_verify.proofs.report.Report.read.Given as goal

abbrev pub invariant-loop-line : goal.invariant-loop-line
invariant-loop-line l = record {
  same : reading_from l.self l.number (parts 10 l.rest) ≡ reading_from l.initial.self 1 (parts 10 l.text);
  within : l.number + length l.rest ≤ 1 + length l.text;
}

abbrev pub decreases-loop-line : goal.decreases-loop-line
decreases-loop-line l = length l.rest
