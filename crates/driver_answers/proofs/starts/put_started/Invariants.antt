use Rattle.std.proofs.Common.{◌≡◌, ◌≤◌, ◌++◌, ◌+◌, ◌-◌, flat_map}
use Rattle.process_tree.specs.Blocks.{numbers_from}
use Rattle.driver_answers.specs.Starts.{line_if_named, started}
use Rattle.driver_answers.proofs.starts.put_started.Given as goal

-- the lines so far and those to come are all lines
abbrev pub invariant-loop-i : goal.invariant-loop-i
invariant-loop-i l = record {
  within : l.i ≤ l.count;
  lines : l.out.items ++ flat_map (line_if_named l.h l.name) (numbers_from (l.i + 1) (l.count - l.i)) ≡ l.fn.out.items ++ started l.h l.name;
}

abbrev pub decreases-loop-i : goal.decreases-loop-i
decreases-loop-i l = l.count - l.i
