-- What the end of a doubt leaves, be what is in doubt committed or taken back.
use Rattle.std.proofs.Common.{◌≡◌, ℕ, Bool, List, [], true, false, Some, sym, ◌∙◌, subst}
use Rattle.std.specs.Prelude.{slice_set}
use Rattle.std.specs.List.{slice_get}
use Rattle.process_disk.specs.Disk.{Disk, IsHonest}
use Rattle.process_disk.specs.Images.{EachImage, OthersAsBefore}
use Rattle.gate_log.specs.Standing.{LogState}
use Rattle.resource_box.specs.declared.call.Kind.{Kind}
use Rattle.schedule_model.specs.declared.history.History.{History}
use Rattle.commute_table.specs.declared.catalog.Catalog.{Catalog}
use Rattle.subsystem_store.specs.declared.effect.Effect.{Effect}
use Rattle.subsystem_store.specs.Laws.{IsGoodBook, CommittedIsGood, RolledBackIsGood}
use Rattle.subsystem_store.specs.Opened.{Opened, Stands, IsStoreOfEither}
use Rattle.history_files.specs.Effects.{effects}
use Rattle.history_files.specs.Sound.{IsSound, counted, kind_of}
use Rattle.history_files.specs.Standing.{AreStores, Stand, DoubtIs, RollsBack}
use Rattle.history_files.proofs.Counting.{book_after, counts_after}
use Rattle.history_files.proofs.OneStore.{MayBe, images_of_store, stands_with_store}

-- a store may have the book that the end of a doubt leaves
abbrev pub EndedIsGood : Type 0
EndedIsGood = (recorded : Bool) (kind : Kind) (book doubt : List Effect) → IsGoodBook kind book doubt → IsGoodBook kind (book_after recorded book doubt) []

pub ended_is_good : CommittedIsGood → RolledBackIsGood → EndedIsGood
ended_is_good committed rolled_back true kind book doubt good = committed kind book doubt good
ended_is_good committed rolled_back false kind book doubt good = rolled_back kind book doubt good

-- a store of which it is known whether the history has all that is in doubt
pub record IsDue {B : Type 0} (recorded : Bool) (c : Catalog) (h : History) (q : ℕ) (s : Opened B) : Type 0 where
  pub before : MayBe (effects c.ops h q) q (s.book, s.doubt)
  pub after : MayBe (effects c.ops h q) q (book_after recorded s.book s.doubt, [])

pub is_due : {B : Type 0} → EndedIsGood → (recorded : Bool) (c : Catalog) (h : History) (log : LogState) (stores : List (Opened B)) (disk : Disk) (q : ℕ) (s : Opened B) → AreStores stores → Stand c h log stores disk
    → slice_get stores q ≡ Some s → DoubtIs recorded c.ops h q stores → IsDue recorded c h q s
is_due law recorded c h log stores disk q s are stand at due = record {
  before = record { good = good; counts = stand.books q s at };
  after = record { good = law recorded (kind_of q) s.book s.doubt good; counts = counts_after recorded (effects c.ops h q) s.book s.doubt (due s at) (stand.books q s at) };
}
  where
    good : IsGoodBook (kind_of q) s.book s.doubt
    good = subst (λ k. IsGoodBook k s.book s.doubt) (are.kind q s at) (stand.good q s at)

-- each image of a roll back is sound for the history,
pub images_of_roll_back : {B : Type 0} → EndedIsGood → (c : Catalog) (h : History) (log : LogState) (stores : List (Opened B)) (old new : Disk) (q : ℕ) (s : Opened B)
    → IsHonest old → AreStores stores → log.file ≡ 0 → Stand c h log stores old → slice_get stores q ≡ Some s → DoubtIs false c.ops h q stores
    → OthersAsBefore s.log.file old new → EachImage new old.moment (IsStoreOfEither s.log.file (s.book, []) (s.book, s.doubt)) → EachImage new old.moment (IsSound c h)
images_of_roll_back law c h log stores old new q s honest are zero stand at due others each =
    let is = is_due law false c h log stores old q s are stand at due in
    images_of_store c h log stores old new q (s.book, []) (s.book, s.doubt) honest are zero stand (subst (λ k. OthersAsBefore k old new) (are.file q s at) others) is.after is.before
    (subst (λ k. EachImage new old.moment (IsStoreOfEither k (s.book, []) (s.book, s.doubt))) (are.file q s at) each)

-- and then the files stand for the history.
pub stands_with_roll_back : {B : Type 0} → EndedIsGood → (c : Catalog) (h : History) (log : LogState) (stores : List (Opened B)) (old new : Disk) (q : ℕ) (s t : Opened B)
    → IsHonest old → IsHonest new → AreStores stores → log.file ≡ 0 → Stand c h log stores old → slice_get stores q ≡ Some s → DoubtIs false c.ops h q stores
    → OthersAsBefore s.log.file old new → t.kind ≡ s.kind → RollsBack s t → Stands t new → Stand c h log (slice_set stores q t) new
stands_with_roll_back law c h log stores old new q s t honest honest_new are zero stand at due others kind back stands =
    let is = is_due law false c h log stores old q s are stand at due in
    stands_with_store c h log stores old new q t honest honest_new are zero stand (subst (λ k. OthersAsBefore k old new) (are.file q s at) others) stands
    (subst (λ k. IsGoodBook k t.book t.doubt) (sym (kind ∙ are.kind q s at))
    (subst (λ d. IsGoodBook (kind_of q) t.book d) (sym back.0) (subst (λ b. IsGoodBook (kind_of q) b []) (sym back.1) is.after.good)))
    (subst (λ d. counted (effects c.ops h q) t.book d ≡ effects c.ops h q) (sym back.0)
    (subst (λ b. b ≡ effects c.ops h q) (sym back.1) is.after.counts))
