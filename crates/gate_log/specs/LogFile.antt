-- What a file must hold to be the log of a list of bodies, and which list it is the log of.
use Rattle.std.specs.Prelude.{◌≡◌, ◌⊎◌, ◌||◌, ℕ, ◌+◌, ◌*◌, ◌%◌, ◌/◌, ◌<◌, ◌≤◌, List, [], ◌∷◌, ◌++◌, length, take, drop, flat_map, Bool, false}
use Rattle.std.specs.Prelude.{nat_le, nat_eq, ◌==◌, if◌then◌else◌, Option, Some, None, Result, Ok, Err}
use Rattle.std.proofs.Common.{zero, suc}
use Rattle.std.specs.List.{starts_with}
use Rattle.gate_log.specs.declared.errors.LogError.{LogError}
use Rattle.gate_log.specs.declared.errors.LogError.TheVariants.{BadHeader, BadRecord}

-- the most records of a log
unfoldable pub most_records : ℕ
most_records = 65536

-- the eight bytes of file q's header: `tpsl`, the version, the file's number and two zeros
abbrev pub header : ℕ → ℕ → List ℕ
header version q = 0x74 ∷ 0x70 ∷ 0x73 ∷ 0x6c ∷ version ∷ q ∷ 0 ∷ 0 ∷ []

-- the versions that are read
abbrev pub IsVersion : ℕ → Type 0
IsVersion version = (version ≡ 1) ⊎ (version ≡ 2)

-- what stands behind a body's gate: its length as two bytes, the lower first, and itself
abbrev pub framed : List ℕ → List ℕ
framed body = (length body % 256) ∷ (length body / 256) ∷ body

-- whole records of these bodies, each behind an open gate, which is any byte but 0
abbrev pub AreRecords : List (List ℕ) → List ℕ → Type 0
AreRecords [] bytes = bytes ≡ []
AreRecords (body ∷ bodies) bytes =
    (gate : ℕ) × (low : ℕ) × (high : ℕ) × (rest : List ℕ) × (0 < gate) × (low + 256 * high ≡ length body)
    × (bytes ≡ gate ∷ low ∷ high ∷ body ++ rest) × AreRecords bodies rest

-- the file is the log of these bodies: the header of a version, their records, a closed gate, and then anything
pub record IsLog (q : ℕ) (bodies : List (List ℕ)) (file : List ℕ) : Type 0 where
  pub few : length bodies ≤ most_records
  pub version : ℕ
  pub known : IsVersion version
  pub opened : List ℕ
  pub records : AreRecords bodies opened
  pub free : List ℕ
  pub is : file ≡ header version q ++ opened ++ 0 ∷ free

-- the file of a version that a log writes of these bodies: each record behind a gate of 1, and nothing behind the closed gate
abbrev pub plain_log : ℕ → ℕ → List (List ℕ) → List ℕ
plain_log version q bodies = header version q ++ flat_map (λ body. 1 ∷ framed body) bodies ++ 0 ∷ []

-- how many bytes the records of these bodies take
abbrev pub records_size : List (List ℕ) → ℕ
records_size [] = 0
records_size (body ∷ bodies) = 3 + length body + records_size bodies

-- where the closed gate stands
abbrev pub end_of : List (List ℕ) → ℕ
end_of bodies = 8 + records_size bodies

-- the file begins with the header of a version that is read
abbrev pub has_header : ℕ → List ℕ → Bool
has_header q file = starts_with nat_eq file (header 2 q) || starts_with nat_eq file (header 1 q)

-- what follows the header
abbrev pub after_header : ℕ → List ℕ → Option (List ℕ)
after_header q file = if has_header q file then Some (drop 8 file) else None

-- the first body and what follows it, of a length that was read, if so many bytes are there
abbrev pub first_body : ℕ → List ℕ → Option (List ℕ × List ℕ)
first_body size bytes = if nat_le size (length bytes) then Some (take size bytes, drop size bytes) else None

-- the body of a whole record behind an open gate, and what follows it
abbrev pub first_record : List ℕ → Option (List ℕ × List ℕ)
first_record (gate ∷ low ∷ high ∷ rest) = if gate == 0 then None else first_body (low + 256 * high) rest
first_record bytes = None

-- a closed gate stands at the front
abbrev pub is_closed : List ℕ → Bool
is_closed [] = false
is_closed (gate ∷ rest) = gate == 0

-- the same list with a body more in front
abbrev pub with_body : List ℕ → Result (List (List ℕ)) LogError → Result (List (List ℕ)) LogError
with_body body (Ok bodies) = Ok (body ∷ bodies)
with_body body (Err e) = Err e

-- the bodies up to the closed gate, where no whole record follows; the record that would follow is number n
abbrev pub none_more : ℕ → List ℕ → Result (List (List ℕ)) LogError
none_more n bytes = if is_closed bytes then Ok [] else Err (BadRecord n)

-- the same with the first record taken, if there is one, and read on behind it
abbrev pub bodies_on : (List ℕ → Result (List (List ℕ)) LogError) → ℕ → List ℕ → Option (List ℕ × List ℕ)
    → Result (List (List ℕ)) LogError
bodies_on read_on n bytes None = none_more n bytes
bodies_on read_on n bytes (Some first) = with_body first.0 (read_on first.1)

-- the bodies up to the closed gate, of so many records at most; or the number of the first that isn't whole, where the next is
-- number n
abbrev pub bodies_in : ℕ → ℕ → List ℕ → Result (List (List ℕ)) LogError
bodies_in zero n bytes = none_more n bytes
bodies_in (suc room) n bytes = bodies_on (bodies_in room (n + 1)) n bytes (first_record bytes)

-- those of what follows the header
abbrev pub bodies_after : Option (List ℕ) → Result (List (List ℕ)) LogError
bodies_after None = Err BadHeader
bodies_after (Some bytes) = bodies_in most_records 1 bytes

-- the list that file q is the log of; or the first place where it isn't one
abbrev pub read_log : ℕ → List ℕ → Result (List (List ℕ)) LogError
read_log q file = bodies_after (after_header q file)
