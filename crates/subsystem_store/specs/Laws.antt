-- Which books a store may have, and what is proved of them.
use Rattle.std.specs.Prelude.{◌≡◌, ◌⊎◌, ◌+◌, ◌<◌, ◌≤◌, ◌^◌, ⊤, ℕ, true, List, [], ◌∷◌, ◌++◌, length, Ok}
use Rattle.process_disk.specs.Disk.{FileSet, file_of}
use Rattle.resource_box.specs.declared.call.Kind.{Kind}
use Rattle.subsystem_store.specs.declared.effect.Effect.{Effect}
use Rattle.subsystem_store.specs.Bodies.{is_amount}
use Rattle.subsystem_store.specs.Order.{Book, may_follow, most_effects, read_store}
use Rattle.subsystem_store.specs.Opened.{IsStoreOf, IsStoreOfEither}

-- The numbers of an effect fit their bytes, and its amount is within its limit.
pub record FitsItsBytes (e : Effect) : Type 0 where
  pub number : e.number < 2 ^ 32
  pub process : e.process < 2 ^ 32
  pub step : e.step < 2 ^ 16
  pub key : e.call.key < 2 ^ 32
  pub amount : is_amount e.call.amount ≡ true

-- each of these effects fits its bytes and may follow the book with those before it
abbrev pub ComeInOrder : Kind → List Effect → List Effect → Type 0
ComeInOrder kind book [] = ⊤
ComeInOrder kind book (e ∷ effects) = FitsItsBytes e × (may_follow kind book e ≡ true) × ComeInOrder kind (book ++ e ∷ []) effects

-- A book that a store may have: its effects, with those in doubt as the last, come in order, and are 16,384 at most.
pub record IsGoodBook (kind : Kind) (book doubt : List Effect) : Type 0 where
  pub few : length (book ++ doubt) ≤ most_effects
  pub order : ComeInOrder kind [] (book ++ doubt)

-- file q of the set is read as this book with these effects in doubt
abbrev pub IsReadAs : Kind → ℕ → List Effect → List Effect → FileSet → Type 0
IsReadAs kind q book doubt files = read_store kind q (file_of files q) ≡ Ok (record { book = book; doubt = doubt })

-- a file of a book that a store may have is read as that book
abbrev pub BooksAreReadBack : Type 0
BooksAreReadBack = (kind : Kind) (q : ℕ) (book doubt : List Effect) (files : FileSet) → IsGoodBook kind book doubt
    → IsStoreOf q book doubt files → IsReadAs kind q book doubt files

-- and a file of one of two such books, as each image of a crash within a call is, is read as one of the two
abbrev pub EitherIsReadBack : Type 0
EitherIsReadBack = (kind : Kind) (q : ℕ) (one two : List Effect × List Effect) (files : FileSet) → IsGoodBook kind one.0 one.1
    → IsGoodBook kind two.0 two.1
    → IsStoreOfEither q one two files → IsReadAs kind q one.0 one.1 files ⊎ IsReadAs kind q two.0 two.1 files

-- A store may have the empty book,
abbrev pub EmptyIsGood : Type 0
EmptyIsGood = (kind : Kind) → IsGoodBook kind [] []

-- a book with more effects in doubt, which come in order behind it and those that were,
abbrev pub PreparedIsGood : Type 0
PreparedIsGood = (kind : Kind) (book doubt effects : List Effect) → IsGoodBook kind book doubt
    → length (book ++ doubt) + length effects ≤ most_effects → ComeInOrder kind (book ++ doubt) effects
    → IsGoodBook kind book (doubt ++ effects)

-- that book once all in doubt are committed,
abbrev pub CommittedIsGood : Type 0
CommittedIsGood = (kind : Kind) (book doubt : List Effect) → IsGoodBook kind book doubt → IsGoodBook kind (book ++ doubt) []

-- that book once all in doubt are rolled back,
abbrev pub RolledBackIsGood : Type 0
RolledBackIsGood = (kind : Kind) (book doubt : List Effect) → IsGoodBook kind book doubt → IsGoodBook kind book []

-- and each that is read from a file.
abbrev pub ReadIsGood : Type 0
ReadIsGood = (kind : Kind) (q : ℕ) (file : List ℕ) (b : Book) → read_store kind q file ≡ Ok b → IsGoodBook kind b.book b.doubt
