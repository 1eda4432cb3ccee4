-- Files that are exactly those of a history are read as its books.
use Rattle.std.proofs.Common.{◌≡◌, ◌∙◌, ◌<◌, ◌≤◌, ◌+◌, ℕ, Bool, true, false, List, [], ◌∷◌, ◌++◌, append-nil, length, length-append, arith, refl, subst, sym}
use Rattle.process_disk.specs.Disk.{FileSet}
use Rattle.schedule_model.specs.declared.history.History.{History}
use Rattle.commute_table.specs.declared.catalog.Catalog.{Catalog}
use Rattle.resource_box.specs.declared.call.Kind.{Kind}
use Rattle.subsystem_store.specs.declared.effect.Effect.{Effect}
use Rattle.subsystem_store.specs.Laws.{BooksAreReadBack, ComeInOrder, IsGoodBook, IsReadAs}
use Rattle.subsystem_store.specs.Order.{most_effects}
use Rattle.history_files.specs.Effects.{effects}
use Rattle.history_files.specs.Sound.{IsBookOf, IsSound, are_among, counted, kind_of}
use Rattle.history_files.proofs.Counting.{counts_after}
use Rattle.engine_steps.specs.Engines.{AreExactly}
use Rattle.process_top.specs.Values.{ListsAreOfValues}

-- the laws of books: they are read back, and printed lists keep their values
abbrev pub LawsOfBooks : Type 0
LawsOfBooks = BooksAreReadBack × ListsAreOfValues

-- the first of some effects that come in order do so
come_first : (kind : Kind) (before book doubt : List Effect) → ComeInOrder kind before (book ++ doubt) → ComeInOrder kind before book
come_first kind before [] doubt order = tt
come_first kind before (e ∷ book) doubt order = (order.0, order.1, come_first kind (before ++ e ∷ []) book doubt order.2)

-- effects that come in order, and are few, are a good book with nothing in doubt
good_alone : (kind : Kind) (book : List Effect) → length book ≤ most_effects → ComeInOrder kind [] book → IsGoodBook kind book []
good_alone kind book few order =
    let same = sym (append-nil book) in
    record { few = subst (λ (b : List Effect). length b ≤ most_effects) same few; order = subst (ComeInOrder kind []) same order }

-- The effects that a good book comes to are a good book, with nothing in doubt.
good_effects : (kind : Kind) (es book doubt : List Effect) → IsGoodBook kind book doubt → counted es book doubt ≡ es → IsGoodBook kind es []
good_effects kind es book doubt good counts = by (are_among doubt es) refl
  where
    by : (t : Bool) → are_among doubt es ≡ t → IsGoodBook kind es []
    by true among = subst (λ b. IsGoodBook kind b []) (counts_after true es book doubt among counts) (good_alone kind (book ++ doubt) good.few good.order)
    by false among =
        subst (λ b. IsGoodBook kind b []) (counts_after false es book doubt among counts)
        (good_alone kind book (let few = good.few in omega (arith, few, length-append book doubt)) (come_first kind [] book doubt good.order))

-- So each book of such files is read as the effects of the history.
pub exactly_read : BooksAreReadBack → (c : Catalog) (h : History) (files : FileSet) → IsSound c h files → AreExactly c h files
    → (q : ℕ) → q < 8 → IsReadAs (kind_of q) (q + 1) (effects c.ops h q) [] files
exactly_read law c h files sound exactly q low =
    let b : IsBookOf (effects c.ops h q) q files = sound.books q low in
    law (kind_of q) (q + 1) (effects c.ops h q) [] files (good_effects (kind_of q) (effects c.ops h q) b.book b.doubt b.good b.counts) (exactly.books q low)
