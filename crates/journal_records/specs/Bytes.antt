-- The bytes of records.
use Rattle.std.specs.Prelude.{ℕ, Bool, true, false, ◌==◌, List, [], ◌∷◌, ◌++◌, Option, Some, None, if◌then◌else◌}
use Rattle.std.specs.Int.{to_le_bytes, from_le_bytes, w16, w32}
use Rattle.process_tree.specs.declared.entry.Entry.{Entry}
use Rattle.journal_records.specs.declared.record.Record.{Record}
use Rattle.journal_records.specs.declared.record.Record.TheVariants.{Setup, Start, Act, End}

-- the catalog: 0 and its bytes
abbrev pub setup_bytes : List ℕ → List ℕ
setup_bytes catalog = 0 ∷ catalog

-- a start: 1, the number of the process in four bytes, and its text
abbrev pub start_bytes : ℕ → List ℕ → List ℕ
start_bytes i text = 1 ∷ to_le_bytes w32 i ++ text

-- a step or its undo: 2, the number of the process in four bytes, that of the step in two, and 0 for a step, 1 for an undo
abbrev pub act_bytes : Entry → List ℕ
act_bytes e = 2 ∷ to_le_bytes w32 e.process ++ to_le_bytes w16 e.step ++ (if e.undo then 1 else 0) ∷ []

-- an end: 3 and the number of the process in four bytes
abbrev pub end_bytes : ℕ → List ℕ
end_bytes i = 3 ∷ to_le_bytes w32 i

-- the bytes of a record
abbrev pub bytes_of : Record → List ℕ
bytes_of (Setup catalog) = setup_bytes catalog
bytes_of (Start i text) = start_bytes i text
bytes_of (Act e) = act_bytes e
bytes_of (End i) = end_bytes i

-- the entry of a process and a step; its operation and its key aren't told
abbrev pub entry_told : ℕ → ℕ → Bool → Entry
entry_told i b undo = record { process = i; step = b; op = 0; key = 0; undo = undo }

-- what stands behind a 1: four bytes of a number, and a text
abbrev pub start_in : List ℕ → Option Record
start_in (p0 ∷ p1 ∷ p2 ∷ p3 ∷ text) = Some (Start (from_le_bytes w32 (p0 ∷ p1 ∷ p2 ∷ p3 ∷ [])) text)
start_in rest = None

-- a step or an undo, by its last byte
abbrev pub act_by : ℕ → ℕ → ℕ → Option Record
act_by i b last =
    if last == 0 then Some (Act (entry_told i b false)) else (if last == 1 then Some (Act (entry_told i b true)) else None)

-- behind a 2: four bytes, two bytes and a last one
abbrev pub act_in : List ℕ → Option Record
act_in (p0 ∷ p1 ∷ p2 ∷ p3 ∷ s0 ∷ s1 ∷ last ∷ []) =
    act_by (from_le_bytes w32 (p0 ∷ p1 ∷ p2 ∷ p3 ∷ [])) (from_le_bytes w16 (s0 ∷ s1 ∷ [])) last
act_in rest = None

-- behind a 3: four bytes
abbrev pub end_in : List ℕ → Option Record
end_in (p0 ∷ p1 ∷ p2 ∷ p3 ∷ []) = Some (End (from_le_bytes w32 (p0 ∷ p1 ∷ p2 ∷ p3 ∷ [])))
end_in rest = None

-- the record that bytes are, if they are one; the operation and the key of a step aren't told by them
abbrev pub record_of : List ℕ → Option Record
record_of [] = None
record_of (first ∷ rest) =
    if first == 0 then Some (Setup rest)
    else (if first == 1 then start_in rest
    else (if first == 2 then act_in rest
    else (if first == 3 then end_in rest else None)))
