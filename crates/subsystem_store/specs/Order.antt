-- The order of a store's records.
use Rattle.std.specs.Prelude.{◌≡◌, ⊤, ℕ, ◌+◌, Bool, true, false, not, ◌&&◌, ◌||◌, ◌==◌, nat_lt, List, [], ◌∷◌, ◌++◌, length, Option, Some}
use Rattle.std.specs.Prelude.{None, Result, Ok, Err, if◌then◌else◌}
use Rattle.resource_box.specs.declared.call.Kind.{Kind}
use Rattle.gate_log.specs.LogFile.{read_log}
use Rattle.gate_log.specs.declared.errors.LogError.{LogError}
use Rattle.gate_log.specs.declared.errors.LogError.TheVariants.{DiskFault as LogFault, BadHeader as NoHeader, BadRecord as NoRecord}
use Rattle.gate_log.specs.declared.errors.LogError.TheVariants.{NoMemory as LogMemory}
use Rattle.subsystem_store.specs.declared.effect.Effect.{Effect}
use Rattle.subsystem_store.specs.declared.errors.StoreError.{StoreError}
use Rattle.subsystem_store.specs.declared.errors.StoreError.TheVariants.{DiskFault, BadHeader, BadRecord, BadBook, NoMemory}
use Rattle.subsystem_store.specs.Values.{can_undo}
use Rattle.subsystem_store.specs.Bodies.{record_of}
use Rattle.subsystem_store.specs.declared.effect.Record.{Record}
use Rattle.subsystem_store.specs.declared.effect.Record.TheVariants.{Prepared, Committed}

-- the most effects of a store, committed or in doubt
abbrev pub most_effects : ℕ
most_effects = 16384

-- Committed effects in order, and those that are in doubt.
pub record Book : Type 0 where
  pub book : List Effect
  pub doubt : List Effect

-- a number is above that of the last of these effects
abbrev pub is_above : List Effect → ℕ → Bool
is_above [] number = true
is_above (e ∷ []) number = nat_lt e.number number
is_above (e ∷ next ∷ book) number = is_above (next ∷ book) number

-- an effect may be prepared after these: its number is above theirs, and an undo is of a forward effect that isn't undone
abbrev pub may_follow : Kind → List Effect → Effect → Bool
may_follow kind book e = is_above book e.number && (not e.undo || can_undo kind book e)

-- each of these effects may be prepared after those and the ones before it
abbrev pub MayFollowEach : Kind → List Effect → List Effect → Type 0
MayFollowEach kind before [] = ⊤
MayFollowEach kind before (e ∷ effects) = (may_follow kind before e ≡ true) × MayFollowEach kind (before ++ e ∷ []) effects

-- there is a place for one effect more
abbrev pub has_place : List Effect → Bool
has_place effects = nat_lt (length effects) most_effects

-- a number commits what is in doubt: it is that of the last
abbrev pub commits : List Effect → ℕ → Bool
commits [] number = false
commits (e ∷ []) number = e.number == number
commits (e ∷ next ∷ doubt) number = commits (next ∷ doubt) number

-- after one record more; or none where it is out of place
abbrev pub after_prepared : Kind → Book → Effect → Option Book
after_prepared kind b e =
    if has_place (b.book ++ b.doubt) && may_follow kind (b.book ++ b.doubt) e
    then Some (record { book = b.book; doubt = b.doubt ++ e ∷ [] }) else None

abbrev pub after_committed : List Effect → List Effect → ℕ → Option Book
after_committed book doubt number = if commits doubt number then Some (record { book = book ++ doubt; doubt = [] }) else None

abbrev pub after_record : Kind → Book → Record → Option Book
after_record kind b (Prepared e) = after_prepared kind b e
after_record kind b (Committed number) = after_committed b.book b.doubt number

-- after record n, whose body is read first
abbrev pub placed : ℕ → Option Book → Result Book StoreError
placed n (Some b) = Ok b
placed n None = Err (BadBook n)

abbrev pub after_body : Kind → ℕ → Book → Option Record → Result Book StoreError
after_body kind n b None = Err (BadRecord n)
after_body kind n b (Some r) = placed n (after_record kind b r)

-- after these bodies, the first of which is record n
abbrev pub read_on : (Book → Result Book StoreError) → Result Book StoreError → Result Book StoreError
read_on more (Ok b) = more b
read_on more (Err e) = Err e

abbrev pub read_bodies : Kind → ℕ → List (List ℕ) → Book → Result Book StoreError
read_bodies kind n [] b = Ok b
read_bodies kind n (body ∷ bodies) b = read_on (read_bodies kind (n + 1) bodies) (after_body kind n b (record_of body))

-- no effect
abbrev pub no_book : Book
no_book = record { book = []; doubt = [] }

-- what a file's log says
abbrev pub of_log : Kind → Result (List (List ℕ)) LogError → Result Book StoreError
of_log kind (Ok bodies) = read_bodies kind 1 bodies no_book
of_log kind (Err LogFault) = Err DiskFault
of_log kind (Err NoHeader) = Err BadHeader
of_log kind (Err (NoRecord n)) = Err (BadRecord n)
of_log kind (Err LogMemory) = Err NoMemory

-- the book of file q and what is in doubt in it; or the first place where it is no store
abbrev pub read_store : Kind → ℕ → List ℕ → Result Book StoreError
read_store kind q file = of_log kind (read_log q file)
