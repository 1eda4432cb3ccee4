-- What is proved of the bytes of records.
use Rattle.std.specs.Prelude.{◌≡◌, ◌<◌, ◌^◌, ⊤, Some}
use Rattle.journal_records.specs.declared.record.Record.{Record}
use Rattle.journal_records.specs.declared.record.Record.TheVariants.{Setup, Start, Act, End}
use Rattle.journal_records.specs.Bytes.{bytes_of, record_of, entry_told}

-- the numbers of a record fit their bytes, as its types say
abbrev pub FitsItsBytes : Record → Type 0
FitsItsBytes (Setup catalog) = ⊤
FitsItsBytes (Start i text) = i < 2 ^ 32
FitsItsBytes (Act e) = (e.process < 2 ^ 32) × (e.step < 2 ^ 16)
FitsItsBytes (End i) = i < 2 ^ 32

-- what its bytes tell of a record: all but the operation and the key of a step
abbrev pub told : Record → Record
told (Setup catalog) = Setup catalog
told (Start i text) = Start i text
told (Act e) = Act (entry_told e.process e.step e.undo)
told (End i) = End i

-- The bytes of a record are read as that record.
abbrev pub RecordsAreReadBack : Type 0
RecordsAreReadBack = (r : Record) → FitsItsBytes r → record_of (bytes_of r) ≡ Some (told r)
