-- A map of names to their numbers.
use Rattle.std.specs.Prelude.{◌≡◌, ℕ, List}
use Rattle.std.specs.Ordering.{nat_cmp}
use Rattle.std.specs.Cmp.Lexicographic.{slice_cmp}
use Rattle.std.specs.BTreeMap.{BTreeMap, get_by}
use denote.Ref.{Bor}
use Rattle.trace_verify.specs.Names.{found}

-- the map has the number of each of these names, and nothing else
abbrev pub AreNumbered : BTreeMap (Bor (List ℕ)) ℕ → List (List ℕ) → Type 0
AreNumbered numbers names = (w : List ℕ) → get_by (λ k. slice_cmp nat_cmp w k.now) numbers ≡ found names w
