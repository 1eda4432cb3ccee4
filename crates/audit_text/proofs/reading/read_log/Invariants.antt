use Rattle.std.proofs.Common.{◌≡◌, ◌+◌, ◌≤◌, length}
use Rattle.trace_verify.specs.Lines.{parts}
use Rattle.audit_text.specs.Logs.{log_from, nothing}
use Rattle.audit_text.proofs.reading.read_log.Given as goal

-- what the lines to come say behind what was told is what all say
abbrev pub invariant-loop-line : goal.invariant-loop-line
invariant-loop-line l = record {
  same : log_from l.plans l.log l.number (parts 10 l.rest) ≡ log_from l.plans nothing l.first (parts 10 l.text);
  within : l.number + length l.rest ≤ l.first + length l.text;
}

abbrev pub decreases-loop-line : goal.decreases-loop-line
decreases-loop-line l = length l.rest
