use Rattle.std.proofs.Common.{◌≡◌, ◌≤◌, length, take, reverse}
use Rattle.process_disk.specs.Stop.{from_latest, is_within}
use Rattle.process_disk.proofs.stop.changes_within.Given as goal

abbrev pub invariant-loop-end : goal.invariant-loop-end
invariant-loop-end l = record {
  within : l.end ≤ length l.made;
  newer : from_latest (is_within l.call) (reverse (take l.end l.made)) ≡ from_latest (is_within l.call) (reverse l.made);
}

abbrev pub decreases-loop-end : goal.decreases-loop-end
decreases-loop-end l = l.end
