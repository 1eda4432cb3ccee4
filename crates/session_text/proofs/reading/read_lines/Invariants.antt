use Rattle.std.proofs.Common.{◌≡◌, ◌+◌, ◌≤◌, length}
use Rattle.trace_verify.specs.Lines.{parts}
use Rattle.session_text.specs.Sessions.{after, said_from}
use Rattle.session_text.proofs.reading.read_lines.Given as goal

-- the lines so far and those to come are all lines
abbrev pub invariant-loop-line : goal.invariant-loop-line
invariant-loop-line l = record {
  same : after l.lines.items (said_from l.number (parts 10 l.rest)) ≡ said_from l.first (parts 10 l.text);
  within : l.number + length l.rest ≤ l.first + length l.text;
}

abbrev pub decreases-loop-line : goal.decreases-loop-line
decreases-loop-line l = length l.rest
