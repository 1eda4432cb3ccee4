-- What is taken of a source, line by line.
use Rattle.std.specs.Prelude.{◌≡◌, ◌⊎◌, ◌≤◌, ◌<◌, ◌+◌, ◌-◌, ℕ, Bool, true, false, List, [], ◌++◌, length, take, Option, Some, None, ⊤}
use Rattle.std.specs.Io.KnownBytes.{Consumes, IsAtEnd}
use Rattle.trace_verify.specs.Lines.{cut}
use Rattle.line_reader.specs.declared.taken.Taken.{Taken}
use Rattle.line_reader.specs.declared.taken.Taken.TheVariants.{Line, LongLine, End, LongEnd}

-- Bytes that stood ready are divided: what stands before the first line feed goes to a line, and what stands behind it stays; where
-- there is none all go. Of the line no more than one byte more than may be is kept.
abbrev pub IsFrontTaken : ℕ → List ℕ → List ℕ → List ℕ → List ℕ → Bool → Type 0
IsFrontTaken most ready left line longer true =
    (front : List ℕ) × (cut 10 ready ≡ Some (front, left)) × (longer ≡ line ++ take (most + 1 - length line) front)
IsFrontTaken most ready left line longer false =
    (cut 10 ready ≡ None) × (left ≡ []) × (longer ≡ line ++ take (most + 1 - length line) ready)

-- Of these bytes the first line was taken, which has at most so many bytes, or more; and these bytes are left behind its line feed.
-- Or there is no line feed, and all are taken.
abbrev pub IsFirstOf : ℕ → List ℕ → List ℕ → Taken → Type 0
IsFirstOf most bytes left (Line line) = (cut 10 bytes ≡ Some (line.items, left)) × (length line.items ≤ most)
IsFirstOf most bytes left LongLine = (line : List ℕ) × (cut 10 bytes ≡ Some (line, left)) × (most < length line)
IsFirstOf most bytes left (End rest) = (cut 10 bytes ≡ None) × (left ≡ []) × (rest.items ≡ bytes) × (length bytes ≤ most)
IsFirstOf most bytes left LongEnd = (cut 10 bytes ≡ None) × (left ≡ []) × (most < length bytes)

-- the source is at its end, where it tells, if all of it was taken
abbrev pub IsEndOf : Option (List ℕ) → Taken → Type 0
IsEndOf after (Line line) = ⊤
IsEndOf after LongLine = ⊤
IsEndOf after (End rest) = IsAtEnd after
IsEndOf after LongEnd = IsAtEnd after

-- how many bytes a source is asked for at once
abbrev pub most_ahead : ℕ
most_ahead = 4096

-- Behind bytes that stood ready the source gave none; or these, of which the last came by a read that was made while no line stood
-- ready.
abbrev pub IsReadAsNeeded : List ℕ → List ℕ → Type 0
IsReadAsNeeded ready given =
    (given ≡ [])
    ⊎ ((earlier last : List ℕ) × (given ≡ earlier ++ last) × (cut 10 (ready ++ earlier) ≡ None) × (length last ≤ most_ahead))

-- Behind bytes that stood ready the source gave more, and of both this was taken.
abbrev pub IsTaken : ℕ → List ℕ → List ℕ → Option (List ℕ) → Option (List ℕ) → Taken → Type 0
IsTaken most ready left before after taken =
    (given : List ℕ) × Consumes before after given × IsFirstOf most (ready ++ given) left taken × IsEndOf after taken
    × IsReadAsNeeded ready given
