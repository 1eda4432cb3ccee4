use Rattle.std.proofs.Common.{◌≡◌, ◌≤◌, map, vec_len, vec_capacity, ℕ, ◌-◌, ◌<◌, [], Some}
use Rattle.std.specs.List.{slice_get}
use Rattle.history_files.proofs.boxes.clear_all.Given as goal

abbrev pub invariant-loop-place : goal.invariant-loop-place
invariant-loop-place g l = record {
  empty : (q : ℕ) (b : _) → q < l.place → slice_get l.boxes.items q ≡ Some b → (g.B.Resource.meaning b).items ≡ [];
  kinds : map g.B.Resource.sort l.boxes.items ≡ map g.B.Resource.sort l.fn.boxes.items;
  capacity : vec_capacity l.boxes ≡ vec_capacity l.fn.boxes;
  within : l.place ≤ vec_len l.boxes;
}

abbrev pub decreases-loop-place : goal.decreases-loop-place
decreases-loop-place g l = vec_len l.boxes - l.place
