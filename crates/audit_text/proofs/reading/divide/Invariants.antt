use Rattle.std.proofs.Common.{◌≡◌, ◌+◌, ◌-◌, ◌≤◌, length}
use Rattle.trace_verify.specs.Lines.{parts}
use Rattle.session_text.specs.Sessions.{mark_from, mark_of}
use Rattle.audit_text.proofs.reading.divide.Given as goal

-- the mark is among the lines to come, or there is none
abbrev pub invariant-loop-line : goal.invariant-loop-line
invariant-loop-line l = record {
  same : mark_from (length l.text - length l.rest) l.first (parts 10 l.rest) ≡ mark_of l.text;
  within : l.first + length l.rest ≤ 1 + length l.text;
  left : length l.rest ≤ length l.text;
}

abbrev pub decreases-loop-line : goal.decreases-loop-line
decreases-loop-line l = length l.rest
