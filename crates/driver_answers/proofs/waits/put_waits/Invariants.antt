use Rattle.std.proofs.Common.{◌≡◌, ◌≤◌, ◌++◌, ◌+◌, ◌-◌, flat_map}
use Rattle.process_tree.specs.Blocks.{numbers_from}
use Rattle.driver_answers.specs.Waits.{line_if_active, waits}
use Rattle.driver_answers.proofs.waits.put_waits.Given as goal

-- the lines so far and those to come are all lines
abbrev pub invariant-loop-i : goal.invariant-loop-i
invariant-loop-i g l = record {
  within : l.i ≤ l.count;
  lines : l.out.items ++ flat_map (line_if_active l.engine.core) (numbers_from (l.i + 1) (l.count - l.i)) ≡ l.fn.out.items ++ waits l.engine.core;
}

abbrev pub decreases-loop-i : goal.decreases-loop-i
decreases-loop-i g l = l.count - l.i
