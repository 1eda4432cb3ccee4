-- What preparing effects leaves.
use Rattle.std.proofs.Common.{◌≡◌, ◌+◌, ◌≤◌, ℕ, List, [], ◌∷◌, ◌++◌, append-nil, length, false, Some, sym, subst}
use Rattle.std.specs.List.{All, slice_get}
use Rattle.std.proofs.lemmas.List.Elements.{All-head, All-tail}
use Rattle.process_disk.specs.Disk.{Disk}
use Rattle.gate_log.specs.Standing.{LogState}
use Rattle.resource_box.specs.declared.call.Kind.{Kind}
use Rattle.schedule_model.specs.declared.history.History.{History}
use Rattle.commute_table.specs.declared.catalog.Catalog.{Catalog}
use Rattle.subsystem_store.specs.declared.effect.Effect.{Effect}
use Rattle.subsystem_store.specs.Laws.{ComeInOrder, FitsItsBytes, IsGoodBook, PreparedIsGood}
use Rattle.subsystem_store.specs.Order.{MayFollowEach, most_effects}
use Rattle.subsystem_store.specs.Opened.{Opened}
use Rattle.history_files.specs.Effects.{effects}
use Rattle.history_files.specs.Sound.{counted, is_among}
use Rattle.history_files.specs.Standing.{AreStores, Stand}
use Rattle.history_files.proofs.Counting.{counts_doubt}
use Rattle.history_files.proofs.OneStore.{MayBe}

-- effects that fit their bytes come in order where each may follow
come_in_order : (kind : Kind) (book es : List Effect) → MayFollowEach kind book es → All FitsItsBytes es → ComeInOrder kind book es
come_in_order kind book [] follow fit = tt
come_in_order kind book (e ∷ es) follow fit =
    (All-head FitsItsBytes e es fit, follow.0, come_in_order kind (book ++ e ∷ []) es follow.1 (All-tail FitsItsBytes e es fit))

-- What is asked of effects that are prepared behind a book, with nothing in doubt.
pub record MayCome (kind : Kind) (book doubt es : List Effect) : Type 0 where
  pub settled : doubt ≡ []
  pub few : length book + length es ≤ most_effects
  pub follow : MayFollowEach kind book es
  pub fit : All FitsItsBytes es

-- A store may have the book with them in doubt.
pub good_prepared : PreparedIsGood → (kind : Kind) (book doubt es : List Effect) → MayCome kind book doubt es → IsGoodBook kind book doubt → IsGoodBook kind book (doubt ++ es)
good_prepared law kind book doubt es may good =
    subst (λ d. IsGoodBook kind book (d ++ es)) (sym may.settled)
    (law kind book [] es (subst (IsGoodBook kind book) may.settled good) (subst (λ b. length b + length es ≤ most_effects) (sym (append-nil book)) may.few)
    (subst (λ b. ComeInOrder kind b es) (sym (append-nil book)) (come_in_order kind book es may.follow may.fit)))

-- And where the history lacks each, the book comes to its effects with them in doubt as well.
pub is_ready : {B : Type 0} → PreparedIsGood → (c : Catalog) (h : History) (log : LogState) (stores : List (Opened B)) (disk : Disk) (q : ℕ) (s : Opened B) (es : List Effect) → AreStores stores → Stand c h log stores disk
    → slice_get stores q ≡ Some s → All (λ (e : Effect). is_among e (effects c.ops h q) ≡ false) es → MayCome s.kind s.book s.doubt es → MayBe (effects c.ops h q) q (s.book, s.doubt ++ es)
is_ready law c h log stores disk q s es are stand at lacks may = record {
  good = subst (λ k. IsGoodBook k s.book (s.doubt ++ es)) (are.kind q s at) (good_prepared law s.kind s.book s.doubt es may (stand.good q s at));
  counts = subst (λ d. counted (effects c.ops h q) s.book (d ++ es) ≡ effects c.ops h q) (sym may.settled) (counts_doubt (effects c.ops h q) s.book es lacks counts);
}
  where
    counts : s.book ≡ effects c.ops h q
    counts = subst (λ d. counted (effects c.ops h q) s.book d ≡ effects c.ops h q) may.settled (stand.books q s at)
