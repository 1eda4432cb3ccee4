-- How a book is read record by record.
use Rattle.std.specs.Prelude.{◌&&◌, if◌then◌else◌}
use Rattle.std.proofs.Common.{◌≡◌, ℕ, Bool, true, false, List, [], ◌∷◌, ◌++◌, Some, None, Result, Ok, Err, ap}
use Rattle.resource_box.specs.declared.call.Kind.{Kind}
use Rattle.subsystem_store.specs.declared.effect.Effect.{Effect}
use Rattle.subsystem_store.specs.declared.errors.StoreError.{StoreError}
use Rattle.subsystem_store.specs.declared.errors.StoreError.TheVariants.{DiskFault, BadHeader, BadRecord, BadBook, NoMemory}
use Rattle.subsystem_store.specs.Order.{Book, may_follow, has_place, commits, placed, after_prepared, after_committed, read_on}
use Rattle.subsystem_store.specs.Answers.{RefusedAs}

-- a book where a test says so
abbrev placed_if : ℕ → Book → Bool → Result Book StoreError
placed_if n b t = placed n (if t then Some b else None)

-- an effect that is in place is prepared,
pub prepared_in_place : (kind : Kind) (n : ℕ) (b : Book) (e : Effect) → (has_place (b.book ++ b.doubt) && may_follow kind (b.book ++ b.doubt) e) ≡ true
    → placed n (after_prepared kind b e) ≡ Ok (record { book = b.book; doubt = b.doubt ++ e ∷ [] })
prepared_in_place kind n b e in_place = ap (placed_if n (record { book = b.book; doubt = b.doubt ++ e ∷ [] })) in_place

-- and one that isn't is refused
pub prepared_out_of_place : (kind : Kind) (n : ℕ) (b : Book) (e : Effect) → (has_place (b.book ++ b.doubt) && may_follow kind (b.book ++ b.doubt) e) ≡ false
    → placed n (after_prepared kind b e) ≡ Err (BadBook n)
prepared_out_of_place kind n b e out = ap (placed_if n (record { book = b.book; doubt = b.doubt ++ e ∷ [] })) out

-- a committed number that is due commits all in doubt,
pub committed_due : (n number : ℕ) (book doubt : List Effect) → commits doubt number ≡ true → placed n (after_committed book doubt number) ≡ Ok (record { book = book ++ doubt; doubt = [] })
committed_due n number book doubt due = ap (placed_if n (record { book = book ++ doubt; doubt = [] })) due

-- and one that isn't is refused
pub committed_not_due : (n number : ℕ) (book doubt : List Effect) → commits doubt number ≡ false → placed n (after_committed book doubt number) ≡ Err (BadBook n)
committed_not_due n number book doubt out = ap (placed_if n (record { book = book ++ doubt; doubt = [] })) out

-- a refusal at a record is that of all from it on
pub refused_on : (more : Book → Result Book StoreError) (found : Result Book StoreError) (e : StoreError) → RefusedAs found e → RefusedAs (read_on more found) e
refused_on more found DiskFault is = tt
refused_on more found BadHeader is = ap (read_on more) is
refused_on more found (BadRecord n) is = ap (read_on more) is
refused_on more found (BadBook n) is = ap (read_on more) is
refused_on more found NoMemory is = tt
