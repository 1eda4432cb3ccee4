-- Stores in which nothing is in doubt.
use Rattle.std.proofs.Common.{◌≡◌, ◌<◌, ℕ, List, [], ◌++◌, append-nil, Some, refl, sym, ◌∙◌, ap, subst}
use Rattle.std.specs.List.{slice_get}
use Rattle.subsystem_store.specs.Opened.{Opened}
use Rattle.store_group.specs.Events.{BecomeEach, IsCommitted}
use Rattle.store_group.proofs.InOrder.{one_there}
use Rattle.history_files.specs.Groups.{HasNoDoubt}

-- nothing is in doubt in the stores below a place
abbrev pub NoneBelow : {B : Type 0} → ℕ → List (Opened B) → Type 0
NoneBelow {B} q stores = (k : ℕ) (s : Opened B) → k < q → slice_get stores k ≡ Some s → s.doubt ≡ []

committed_as_none : {B : Type 0} (s : Opened B) → s.doubt ≡ [] → IsCommitted s s
committed_as_none s none = record { file = refl; kind = refl; book = sym (ap (λ d. s.book ++ d) none ∙ append-nil s.book); doubt = none }

-- where nothing is in doubt stores are committed as they are
pub none_committed : {B : Type 0} (stores : List (Opened B)) → HasNoDoubt stores → BecomeEach (λ q s t. IsCommitted s t) stores stores
none_committed stores none = record {
  count = refl;
  each = λ q s t at too. subst (IsCommitted s) (one_there stores q s t at too) (committed_as_none s (none q s at));
}
