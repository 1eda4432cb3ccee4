-- The bytes of a catalog, and where bytes stop being those of any.
use Rattle.std.specs.Prelude.{◌≡◌, ℕ, ◌<◌, ◌/◌, ◌%◌, List, [], ◌∷◌, ◌++◌, length, take, map, slice_get}
use Rattle.std.specs.List.{flat_map}
use Rattle.process_tree.specs.declared.conflicts.Mode.{Mode}
use Rattle.process_tree.specs.declared.conflicts.Mode.TheVariants.{Never, Key, Always}
use Rattle.commute_table.specs.declared.op.Verb.{Verb}
use Rattle.commute_table.specs.declared.op.Verb.TheVariants.{Add, Take, Look, Put, Hold, Free}
use Rattle.commute_table.specs.declared.op.Op.{Op}
use Rattle.commute_table.specs.declared.catalog.Catalog.{Catalog}
use Rattle.commute_table.specs.Operations.{IsCatalog}

-- the code of a verb
abbrev pub verb_code : Verb → ℕ
verb_code Add = 0
verb_code Take = 1
verb_code Look = 2
verb_code Put = 3
verb_code Hold = 4
verb_code Free = 5

-- the length of the name, the name, the subsystem and the verb
abbrev pub op_bytes : Op → List ℕ
op_bytes o = length o.name ∷ (o.name ++ o.subsystem ∷ verb_code o.verb ∷ [])

-- how a pair's mode is written: 2 is in version 2 alone
abbrev pub cell_byte : Mode → ℕ
cell_byte Never = 0
cell_byte Always = 1
cell_byte Key = 2

abbrev pub row_bytes : List Mode → List ℕ
row_bytes row = map cell_byte row

-- the version, the number of operations in two bytes, the low one first, each operation, and each pair: those of
-- operation 0 with itself and each later one, then those of operation 1, and so on
abbrev pub bytes_of : Catalog → List ℕ
bytes_of c = c.version ∷ length c.ops % 256 ∷ length c.ops / 256 ∷ (flat_map op_bytes c.ops ++ flat_map row_bytes c.conflicts)

-- up to place n, that one included, the bytes are those of some catalog; behind the last byte their end is a place too
abbrev pub GoesOn : List ℕ → ℕ → Type 0
GoesOn bytes n = (c : Catalog) × IsCatalog c × (take n (bytes_of c) ≡ take n bytes) × (slice_get (bytes_of c) n ≡ slice_get bytes n)

-- place n is the first where no catalog's bytes go on as these do
pub record IsFirstBad (bytes : List ℕ) (n : ℕ) : Type 0 where
  pub before : (k : ℕ) → k < n → GoesOn bytes k
  pub bad : ¬ GoesOn bytes n

-- no catalog's bytes begin another's
abbrev pub NoCatalogBeginsAnother : Type 0
NoCatalogBeginsAnother = (c d : Catalog) (rest : List ℕ) → IsCatalog c → IsCatalog d → bytes_of d ≡ bytes_of c ++ rest
    → (rest ≡ []) × (d ≡ c)
