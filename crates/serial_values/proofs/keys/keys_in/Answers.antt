use Rattle.std.proofs.Common.{subst, sym}
use Rattle.std.specs.List.{Contains}
use Rattle.std.proofs.lemmas.List.Filters.{dedup_is}
use Rattle.std.proofs.lemmas.List.Kept.{Contains-dedup_nat}
use Rattle.std.proofs.lemmas.List.Sorted.{Contains-permutation}
use Rattle.std.proofs.lemmas.Map.Keys.{IsStrictlyIncreasing-dedup, sorted_from_strictly_increasing}
use Rattle.serial_values.proofs.keys.keys_in.Goals as goal

pub returns-clause-all : goal.returns-clause-all
returns-clause-all c k at =
    let is = dedup_is _ _ _ c.dedup.ensures.filtered in
    rw is (Contains-dedup_nat _ k (Contains-permutation _ _ k c.sort_unstable.ensures.permutation (subst (λ ks. Contains ks k) (sym c.in_ok-keys.ensures) at)))

pub returns-clause-sorted : goal.returns-clause-sorted
returns-clause-sorted c =
    let is = dedup_is _ _ _ c.dedup.ensures.filtered in
    rw is (sorted_from_strictly_increasing _ (IsStrictlyIncreasing-dedup _ c.sort_unstable.ensures.sorted))
