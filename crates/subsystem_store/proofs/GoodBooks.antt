-- Each call of a store ends with a book that a store may have.
use Rattle.std.specs.Prelude.{◌&&◌, if◌then◌else◌}
use Rattle.std.proofs.Common.{◌≡◌, ◌+◌, ℕ, Bool, true, false, List, [], ◌∷◌, ◌++◌, length, length-append, append_assoc, append-nil, Option, Some, None, Result, Ok, Err, refl, sym, ap, arith, subst}
use Rattle.std.proofs.lemmas.Bool.{ltb-true}
use Rattle.resource_box.specs.declared.call.Kind.{Kind}
use Rattle.gate_log.specs.LogFile.{read_log}
use Rattle.gate_log.specs.declared.errors.LogError.{LogError}
use Rattle.gate_log.specs.declared.errors.LogError.TheVariants.{DiskFault as LogFault, BadHeader as NoHeader, BadRecord as NoRecord, NoMemory as LogMemory}
use Rattle.subsystem_store.specs.declared.effect.Effect.{Effect}
use Rattle.subsystem_store.specs.declared.effect.Record.{Record}
use Rattle.subsystem_store.specs.declared.effect.Record.TheVariants.{Prepared, Committed}
use Rattle.subsystem_store.specs.declared.errors.StoreError.{StoreError}
use Rattle.subsystem_store.specs.Bodies.{record_of}
use Rattle.subsystem_store.specs.Order.{Book, may_follow, has_place, commits, after_prepared, after_committed, after_body, placed, read_on, read_bodies, of_log, no_book}
use Rattle.subsystem_store.specs.Laws.{FitsItsBytes, ComeInOrder, IsGoodBook, EmptyIsGood, PreparedIsGood, CommittedIsGood, RolledBackIsGood, ReadIsGood}
use Rattle.subsystem_store.proofs.BodiesBack.{read_fits}
use Rattle.subsystem_store.proofs.BooksBack.{book_with}

-- Effects that come in order do so with more behind them,
order_append : (kind : Kind) (before book more : List Effect) → ComeInOrder kind before book → ComeInOrder kind (before ++ book) more → ComeInOrder kind before (book ++ more)
order_append kind before [] more order rest = subst (λ (b : List Effect). ComeInOrder kind b more) (append-nil before) rest
order_append kind before (first ∷ book) more (fits, follows, order) rest =
    (fits, follows, order_append kind (before ++ first ∷ []) book more order (subst (λ (b : List Effect). ComeInOrder kind b more) (sym (append_assoc before (first ∷ []) book)) rest))

-- and without the last ones
order_front : (kind : Kind) (before book more : List Effect) → ComeInOrder kind before (book ++ more) → ComeInOrder kind before book
order_front kind before [] more order = tt
order_front kind before (first ∷ book) more (fits, follows, order) = (fits, follows, order_front kind (before ++ first ∷ []) book more order)

pub empty_is_good : EmptyIsGood
empty_is_good kind = record { few = omega arith; order = tt }

pub prepared_is_good : PreparedIsGood
prepared_is_good kind book doubt effects good few order = record {
  few = omega (arith, few, length-append book (doubt ++ effects), length-append doubt effects, length-append book doubt);
  order = subst (ComeInOrder kind []) (append_assoc book doubt effects) (order_append kind [] (book ++ doubt) effects good.order order);
}

pub committed_is_good : CommittedIsGood
committed_is_good kind book doubt good = record {
  few = omega (arith, good.few, ap length (append-nil (book ++ doubt)));
  order = subst (ComeInOrder kind []) (sym (append-nil (book ++ doubt))) good.order;
}

pub rolled_back_is_good : RolledBackIsGood
rolled_back_is_good kind book doubt good = record {
  few = omega (arith, good.few, length-append book doubt, length-append book []);
  order = subst (ComeInOrder kind []) (sym (append-nil book)) (order_front kind [] book doubt good.order);
}

-- What was read so far is a book that a store may have.
abbrev AreRead : Kind → Book → Type 0
AreRead kind b = IsGoodBook kind b.book b.doubt

-- one more prepared,
one_prepared : (kind : Kind) (b : Book) (e : Effect) (next : Book) → AreRead kind b → FitsItsBytes e → after_prepared kind b e ≡ Some next → AreRead kind next
one_prepared kind b e next read fits is = by (has_place (b.book ++ b.doubt)) (may_follow kind (b.book ++ b.doubt) e) refl refl is
  where
    by : (place follows : Bool) → has_place (b.book ++ b.doubt) ≡ place → may_follow kind (b.book ++ b.doubt) e ≡ follows
        → (if place && follows then Some (book_with b.book (b.doubt ++ e ∷ [])) else None) ≡ Some next → AreRead kind next
    by true true place follows is =
        let same : book_with b.book (b.doubt ++ e ∷ []) ≡ next = cc in
        subst (AreRead kind) same (prepared_is_good kind b.book b.doubt (e ∷ []) read (omega (arith, ltb-true (length (b.book ++ b.doubt)) 16384 place)) (fits, follows, tt))
    by true false place follows is = absurd cc
    by false f place follows is = absurd cc

-- and what is in doubt committed
one_committed : (kind : Kind) (book doubt : List Effect) (number : ℕ) (next : Book) → AreRead kind (book_with book doubt) → after_committed book doubt number ≡ Some next → AreRead kind next
one_committed kind book doubt number next read is = by (commits doubt number) is
  where
    by : (due : Bool) → (if due then Some (book_with (book ++ doubt) []) else None) ≡ Some next → AreRead kind next
    by true is =
        let same : book_with (book ++ doubt) [] ≡ next = cc in
        subst (AreRead kind) same (committed_is_good kind book doubt read)
    by false is = absurd cc

-- a record that has a place
placed_is : (n : ℕ) (o : Option Book) (b : Book) → placed n o ≡ Ok b → o ≡ Some b
placed_is n None b is = absurd cc
placed_is n (Some found) b is = let same : found ≡ b = cc in ap Some same

-- so one record more
one_more : (kind : Kind) (n : ℕ) (b next : Book) (o : Option Record) → ((e : Effect) → o ≡ Some (Prepared e) → FitsItsBytes e) → AreRead kind b → after_body kind n b o ≡ Ok next → AreRead kind next
one_more kind n b next None fits read is = absurd cc
one_more kind n b next (Some (Prepared e)) fits read is = one_prepared kind b e next read (fits e refl) (placed_is n (after_prepared kind b e) next is)
one_more kind n b next (Some (Committed number)) fits read is = one_committed kind b.book b.doubt number next read (placed_is n (after_committed b.book b.doubt number) next is)

-- and all of them
all_read : (kind : Kind) (n : ℕ) (bodies : List (List ℕ)) (b last : Book) → AreRead kind b → read_bodies kind n bodies b ≡ Ok last → AreRead kind last
all_read kind n [] b last read is = let same : b ≡ last = cc in subst (AreRead kind) same read
all_read kind n (body ∷ bodies) b last read is = by (after_body kind n b (record_of body)) refl is (λ next. all_read kind (n + 1) bodies next last)
  where
    by : (found : Result Book StoreError) → after_body kind n b (record_of body) ≡ found → read_on (read_bodies kind (n + 1) bodies) found ≡ Ok last
        → ((next : Book) → AreRead kind next → read_bodies kind (n + 1) bodies next ≡ Ok last → AreRead kind last) → AreRead kind last
    by (Ok next) found is further = further next (one_more kind n b next (record_of body) (λ e said. read_fits body e said) read found) is
    by (Err e) found is further = absurd cc

-- a book that is made of bodies is one that a store may have,
pub bodies_are_good : (kind : Kind) (bodies : List (List ℕ)) (b : Book) → read_bodies kind 1 bodies no_book ≡ Ok b → IsGoodBook kind b.book b.doubt
bodies_are_good kind bodies b is = all_read kind 1 bodies no_book b (empty_is_good kind) is

-- and so is one that is read
pub read_is_good : ReadIsGood
read_is_good kind q file b is = by (read_log q file) is
  where
    by : (found : Result (List (List ℕ)) LogError) → of_log kind found ≡ Ok b → IsGoodBook kind b.book b.doubt
    by (Ok bodies) is = bodies_are_good kind bodies b is
    by (Err LogFault) is = absurd cc
    by (Err NoHeader) is = absurd cc
    by (Err (NoRecord n)) is = absurd cc
    by (Err LogMemory) is = absurd cc
