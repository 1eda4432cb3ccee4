-- What the calls of a store answer.
use Rattle.std.specs.Prelude.{◌≡◌, ⊤, Result, Ok, Err}
use Rattle.subsystem_store.specs.declared.errors.StoreError.{StoreError}
use Rattle.subsystem_store.specs.declared.errors.StoreError.TheVariants.{DiskFault, BadHeader, BadRecord, BadBook, NoMemory}
use Rattle.subsystem_store.specs.declared.errors.StoreRefused.{StoreRefused}
use Rattle.subsystem_store.specs.Order.{Book}
use Rattle.subsystem_store.specs.Opened.{Opened}

-- a refusal is the one that was found; want of memory and faults of the rack are free here
abbrev pub RefusedAs : Result Book StoreError → StoreError → Type 0
RefusedAs found DiskFault = ⊤
RefusedAs found BadHeader = found ≡ Err BadHeader
RefusedAs found (BadRecord n) = found ≡ Err (BadRecord n)
RefusedAs found (BadBook n) = found ≡ Err (BadBook n)
RefusedAs found NoMemory = ⊤

-- what `open` answers on what a file reads as
abbrev pub OpensAs : {B : Type 0} → Result Book StoreError → Result (Opened B) (StoreRefused B) → Type 0
OpensAs found (Ok s) = found ≡ Ok (record { book = s.book; doubt = s.doubt })
OpensAs found (Err r) = RefusedAs found r.why

-- it wasn't made or opened since a call of the rack failed
abbrev pub IsFault : {B : Type 0} → Result (Opened B) (StoreRefused B) → Type 0
IsFault (Ok s) = ⊥
IsFault (Err r) = r.why ≡ DiskFault
