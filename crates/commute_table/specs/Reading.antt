-- Reading a catalog's bytes from left to right. What is read is a value and the bytes after it, or else how many bytes are
-- left at the first place that rules out every catalog.
use Rattle.std.specs.Prelude.{◌≡◌, ℕ, zero, suc, ◌+◌, ◌*◌, Bool, true, not, ◌&&◌, List, [], ◌∷◌, ◌++◌, length, Result, Ok, Err}
use Rattle.std.specs.Prelude.{nat_lt, nat_le, ◌==◌, codes, if◌then◌else◌, slice_set}
use Rattle.std.specs.List.{list_any}
use Rattle.process_tree.specs.Name.{is_name}
use Rattle.process_tree.specs.declared.conflicts.Mode.{Mode}
use Rattle.process_tree.specs.declared.conflicts.Mode.TheVariants.{Never, Key, Always}
use Rattle.process_tree.specs.Conflicts.{Table}
use Rattle.commute_table.specs.declared.op.Verb.{Verb}
use Rattle.commute_table.specs.declared.op.Verb.TheVariants.{Add, Take, Look, Put, Hold, Free}
use Rattle.commute_table.specs.declared.op.Op.{Op}
use Rattle.commute_table.specs.declared.catalog.Catalog.{Catalog}
use Rattle.commute_table.specs.declared.reading.Fault.{Fault}
use Rattle.commute_table.specs.declared.reading.Fault.TheVariants.{Memory, Left}
use Rattle.commute_table.specs.Operations.{is_version, has_mode, takes, has_name}

-- a reader of values
abbrev pub Reader : Type 0 → Type 0
Reader A = List ℕ → Result (A × List ℕ) ℕ

infixl 10 ◌>>=◌
abbrev pub ◌>>=◌ : {A B : Type 0} → Result A ℕ → (A → Result B ℕ) → Result B ℕ
(Ok x) >>= f = f x
(Err left) >>= f = Err left

-- what a function returned, seen by view, is what reading gives, unless memory ran out
abbrev pub Fails : {Y : Type 0} → Fault → Result Y ℕ → Type 0
Fails Memory read = Unit {0}
Fails (Left n) read = read ≡ Err n

abbrev pub Gives : {X Y : Type 0} → (X → Y) → Result X Fault → Result Y ℕ → Type 0
Gives view (Ok x) read = read ≡ Ok (view x)
Gives view (Err e) read = Fails e read

-- a byte that passes the test
abbrev pub byte_at : (ℕ → Bool) → Reader ℕ
byte_at ok [] = Err 0
byte_at ok (b ∷ bs) = if ok b then Ok (b, bs) else Err (suc (length bs))

-- the number of operations, of which there are at most 256
unfoldable pub count_at : Reader ℕ
count_at bytes = do
  low ← byte_at (λ _. true) bytes
  high ← byte_at (λ b. nat_le (low.0 + 256 * b) 256) low.1
  Ok (low.0 + 256 * high.0, high.1)

-- the bytes that names are made of
abbrev pub name_bytes : List ℕ
name_bytes = codes "abcdefghijklmnopqrstuvwxyz0123456789_"

-- the text is a name that no operation has
abbrev pub is_new : List Op → List ℕ → Bool
is_new earlier text = is_name text && not (has_name text earlier)

-- what names begin with, and no more than 32 bytes: nothing, or a name
abbrev pub begins_name : List ℕ → Bool
begins_name [] = true
begins_name (b ∷ bs) = is_name (b ∷ bs)

-- With so many bytes more, at most 32 in all, the text can become a name that no operation has: with two more what begins a name
-- always can, since there are more names than operations.
unfoldable pub can_be_new : List Op → ℕ → List ℕ → Bool
can_be_new earlier zero text = is_new earlier text
can_be_new earlier (suc zero) text = list_any (λ b. is_new earlier (text ++ b ∷ [])) name_bytes
can_be_new earlier (suc (suc more)) text = begins_name text

-- the length of the next name
unfoldable pub length_at : List Op → Reader ℕ
length_at earlier bytes = byte_at (λ n. nat_lt 0 n && nat_le n 32 && can_be_new earlier n []) bytes

-- a name that begins with the text and has so many bytes more
unfoldable pub name_at : List Op → ℕ → List ℕ → Reader (List ℕ)
name_at earlier zero text bytes = Ok (text, bytes)
name_at earlier (suc more) text bytes = do
  b ← byte_at (λ b. can_be_new earlier more (text ++ b ∷ [])) bytes
  name_at earlier more (text ++ b.0 ∷ []) b.1

-- the verb of a code, which is below 6
abbrev pub verb_with : ℕ → Verb
verb_with zero = Add
verb_with (suc zero) = Take
verb_with (suc (suc zero)) = Look
verb_with (suc (suc (suc zero))) = Put
verb_with (suc (suc (suc (suc zero)))) = Hold
verb_with (suc (suc (suc (suc (suc code))))) = Free

-- a code whose verb the subsystem takes
abbrev pub takes_code : ℕ → ℕ → Bool
takes_code q b = nat_lt b 6 && takes q (verb_with b)

-- an operation after these
unfoldable pub op_at : List Op → Reader Op
op_at earlier bytes = do
  n ← length_at earlier bytes
  name ← name_at earlier n.0 [] n.1
  q ← byte_at (λ q. nat_lt q 8) name.1
  code ← byte_at (takes_code q.0) q.1
  Ok (record { name = name.0; subsystem = q.0; verb = verb_with code.0 }, code.1)

-- these operations and so many more
unfoldable pub ops_at : ℕ → List Op → Reader (List Op)
ops_at zero earlier bytes = Ok (earlier, bytes)
ops_at (suc n) earlier bytes = do
  op ← op_at earlier bytes
  ops_at n (earlier ++ op.0 ∷ []) op.1

-- the mode of a cell's byte, which is below 3
abbrev pub mode_with : ℕ → Mode
mode_with zero = Never
mode_with (suc zero) = Always
mode_with (suc (suc b)) = Key

-- a byte whose mode the version has
abbrev pub is_cell : ℕ → ℕ → Bool
is_cell version b = nat_lt b 3 && has_mode version (mode_with b)

-- so many cells after these
unfoldable pub cells_at : ℕ → ℕ → List Mode → Reader (List Mode)
cells_at version zero done bytes = Ok (done, bytes)
cells_at version (suc n) done bytes = do
  b ← byte_at (is_cell version) bytes
  cells_at version n (done ++ mode_with b.0 ∷ []) b.1

-- the rows of a table of n operations, after these
unfoldable pub rows_at : ℕ → ℕ → Table → Reader Table
rows_at version zero done bytes = Ok (done, bytes)
rows_at version (suc n) done bytes = do
  row ← cells_at version (suc n) [] bytes
  rows_at version n (done ++ row.0 ∷ []) row.1

-- a catalog, and what stands behind it
unfoldable pub front_at : Reader Catalog
front_at bytes = do
  version ← byte_at is_version bytes
  n ← count_at version.1
  ops ← ops_at n.0 [] n.1
  rows ← rows_at version.0 n.0 [] ops.1
  Ok (record { version = version.0; ops = ops.0; conflicts = rows.0 }, rows.1)

-- a catalog that is all of the bytes
unfoldable pub catalog_at : List ℕ → Result Catalog ℕ
catalog_at bytes = do
  c ← front_at bytes
  if length c.1 == 0 then Ok c.0 else Err (length c.1)

-- what reading a row into a table leaves: the row in its place
abbrev pub PutsRow : {R : Type 0} → (R → List ℕ) → Table → ℕ → Table → Result R Fault → Result (List Mode × List ℕ) ℕ → Type 0
PutsRow view old first new (Ok rest) read = (cells : List Mode) × (read ≡ Ok (cells, view rest)) × (new ≡ slice_set old first cells)
PutsRow view old first new (Err e) read = Fails e read
