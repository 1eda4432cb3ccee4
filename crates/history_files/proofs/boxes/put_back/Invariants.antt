use Rattle.std.proofs.Common.{◌≤◌, ◌+◌, vec_len, vec_capacity}
use Rattle.history_files.specs.Boxes.{AreParted}
use Rattle.history_files.specs.Standing.{EachFits}
use Rattle.history_files.proofs.boxes.put_back.Given as goal

abbrev pub invariant-loop-store : goal.invariant-loop-store
invariant-loop-store g l = record {
  fits : EachFits g.B.Resource l.stores.items;
  parted : AreParted g.B.Resource.sort l.stores.items l.boxes.items;
  room : vec_len l.stores + vec_len l.boxes ≤ vec_capacity l.boxes;
  capacity : vec_capacity l.fn.boxes ≤ vec_capacity l.boxes;
}

abbrev pub decreases-loop-store : goal.decreases-loop-store
decreases-loop-store g l = vec_len l.stores
