use Rattle.std.proofs.Common.{◌≡◌, ◌≤◌, ◌+◌, ◌++◌, map, vec_len, vec_capacity}
use Rattle.std.specs.Prelude.{reverse}
use Rattle.history_files.proofs.handing_back.take_out.Given as goal

abbrev pub invariant-loop-store : goal.invariant-loop-store
invariant-loop-store g l = record {
  boxes : map (λ s. s.resource) l.stores.items ++ reverse l.boxes.items ≡ map (λ s. s.resource) l.fn.stores.items;
  room : vec_len l.stores + vec_len l.boxes ≤ vec_capacity l.boxes;
}

abbrev pub decreases-loop-store : goal.decreases-loop-store
decreases-loop-store g l = vec_len l.stores
