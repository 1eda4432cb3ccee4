use Rattle.std.proofs.Common.{◌≡◌, ◌+◌, ◌-◌, ◌≤◌, drop, take, length}
use Rattle.process_tree.specs.Paths.{shared}
use Rattle.process_tree.proofs.ways.shared.Given as goal

abbrev pub invariant-loop-count : goal.invariant-loop-count
invariant-loop-count l = record {
  counted : l.count + shared (drop l.count l.branch) (drop l.count l.path) ≡ shared l.branch l.path;
  within : l.count ≤ length l.branch;
  same : take l.count l.branch ≡ take l.count l.path;
}

abbrev pub decreases-loop-count : goal.decreases-loop-count
decreases-loop-count l = length l.initial.branch - l.count
