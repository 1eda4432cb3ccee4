use Rattle.std.proofs.Common.{◌≡◌, ◌+◌, ◌≤◌, length}
use Rattle.driver_requests.specs.Answers.{lines_in}
use Rattle.driver_requests.proofs.frames.lines_in.Given as goal

-- the lines counted so far and those to come are all lines
abbrev pub invariant-loop-rest : goal.invariant-loop-rest
invariant-loop-rest l = record {
  same : l.count + lines_in l.rest ≡ lines_in l.text;
  within : l.count + length l.rest ≤ length l.text;
}

abbrev pub decreases-loop-rest : goal.decreases-loop-rest
decreases-loop-rest l = length l.rest
