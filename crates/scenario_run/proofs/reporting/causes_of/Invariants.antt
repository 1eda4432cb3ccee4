use Rattle.std.proofs.Common.{◌≡◌, ◌≤◌, ◌+◌, ◌-◌, ◌++◌}
use Rattle.std.specs.List.{filter_map}
use Rattle.process_tree.specs.Blocks.{numbers_from}
use Rattle.scenario_run.specs.Reports.{cause_of, causes_in}
use Rattle.scenario_run.proofs.reporting.causes_of.Given as goal

-- the causes of the processes that were passed, and of those that are left
abbrev pub invariant-loop-i : goal.invariant-loop-i
invariant-loop-i g l = record {
  within : l.i ≤ l.count;
  causes : l.causes.items ++ filter_map (cause_of l.engine.core) (numbers_from (l.i + 1) (l.count - l.i)) ≡ causes_in l.engine.core;
}

abbrev pub decreases-loop-i : goal.decreases-loop-i
decreases-loop-i g l = l.count - l.i
