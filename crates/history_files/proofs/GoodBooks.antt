-- Each step leaves each store a book that it may have.
use Rattle.std.proofs.Common.{◌≡◌, ℕ, List, [], sym, subst, OnOk, OnErr}
use Rattle.std.specs.Prelude.{Result, Ok, Err, slice_set}
use Rattle.resource_box.specs.declared.call.Kind.{Kind}
use Rattle.subsystem_store.specs.declared.effect.Effect.{Effect}
use Rattle.subsystem_store.specs.Laws.{IsGoodBook, RolledBackIsGood}
use Rattle.subsystem_store.specs.Opened.{Opened}
use Rattle.history_files.specs.Standing.{AreGoodBooks}
use Rattle.history_files.proofs.Places.{set_each}

-- the book of a store that has these
good_as : {B : Type 0} (t : Opened B) (kind : Kind) (book : List Effect) (doubt : List Effect) → t.kind ≡ kind → t.book ≡ book → t.doubt ≡ doubt → IsGoodBook kind book doubt → IsGoodBook t.kind t.book t.doubt
good_as t kind book doubt is_kind is_book is_doubt good =
    subst (λ k. IsGoodBook k t.book t.doubt) (sym is_kind) (subst (λ b. IsGoodBook kind b t.doubt) (sym is_book) (subst (λ d. IsGoodBook kind book d) (sym is_doubt) good))

-- after a roll back, whatever it answers
pub good_rolled_back : {B T E : Type 0} → RolledBackIsGood → (s t : Opened B) (r : Result T E) → IsGoodBook s.kind s.book s.doubt → t.kind ≡ s.kind → t.book ≡ s.book
    → OnOk r (t.doubt ≡ []) → OnErr r (t.doubt ≡ s.doubt) → IsGoodBook t.kind t.book t.doubt
good_rolled_back law s t (Ok x) good kind book ok err = good_as t s.kind s.book [] kind book ok (law s.kind s.book s.doubt good)
good_rolled_back law s t (Err x) good kind book ok err = good_as t s.kind s.book s.doubt kind book err good

-- the others stay
pub good_with : {B : Type 0} (stores : List (Opened B)) (q : ℕ) (t : Opened B) → AreGoodBooks stores → IsGoodBook t.kind t.book t.doubt → AreGoodBooks (slice_set stores q t)
good_with stores q t all good = set_each (λ k x. IsGoodBook x.kind x.book x.doubt) stores q t good (λ k x other at. all k x at)
