-- Counts: for each two processes, how many pairs of conflicting entries make the arrow between them.
use Rattle.std.specs.Prelude.{◌≡◌, ◌≤◌, ◌<◌, ◌+◌, ◌-◌, ℕ, Bool, true, false, ◌&&◌, List, [], ◌∷◌, ◌++◌}
use Rattle.std.specs.Prelude.{length, nat_eq, nat_lt, if◌then◌else◌, Option, Some, None}
use Rattle.process_tree.specs.declared.entry.Entry.{Entry}
use Rattle.process_tree.specs.Conflicts.{do_conflict}
use Rattle.schedule_model.specs.Conflict.{ConflictRelation, conflict}
use Rattle.schedule_model.specs.Graph.{Arrow}
use Rattle.bit_rows.specs.Cells.{cell_or, one_if}
use Rattle.hold_tables.specs.Changes.{without_last}
use Rattle.hold_tables.specs.Places.{place_of}
use Rattle.hold_tables.specs.Tables.{OpenProcess, Tables, has_number, is_open}
use Rattle.hold_tables.specs.Walks.{AreRows, steps_under_way}

-- a number of pairs for each two processes
abbrev pub Pairs : Type 0
Pairs = ℕ → ℕ → ℕ

-- an entry and one that comes later: a pair of their processes, if they conflict
abbrev pub pair : ConflictRelation → Entry → Entry → Pairs
pair table x y i k = one_if (nat_eq x.process i && (nat_eq y.process k && conflict table x y))

-- the pairs of an entry and each of these, which come later
abbrev pub pairs_by : ConflictRelation → Entry → List Entry → Pairs
pairs_by table x [] i k = 0
pairs_by table x (y ∷ ys) i k = pair table x y i k + pairs_by table x ys i k

-- the pairs of each of these entries and one that comes later
abbrev pub pairs_to : ConflictRelation → List Entry → Entry → Pairs
pairs_to table [] e i k = 0
pairs_to table (x ∷ es) e i k = pair table x e i k + pairs_to table es e i k

-- the same of what is under way, if it is a step
abbrev pub pairs_to_step : ConflictRelation → List Entry → Option Entry → Pairs
pairs_to_step table es None i k = 0
pairs_to_step table es (Some e) i k = if e.undo then 0 else pairs_to table es e i k

-- the pairs of entries in joint order, with these under way
abbrev pub pairs_from : ConflictRelation → List Entry → List Entry → Pairs
pairs_from table running [] i k = 0
pairs_from table running (x ∷ es) i k = pairs_by table x (es ++ running) i k + pairs_from table running es i k

-- the pairs of one entry with these before it, these behind it, and these under way
abbrev pub pairs_of_entry : ConflictRelation → List Entry → List Entry → Entry → List Entry → Pairs
pairs_of_entry table running front x back i k =
    pairs_to table front x i k + (pairs_by table x back i k + pairs_by table x running i k)

-- the pairs that go with the last entry of process p
abbrev pub pairs_of_last : ConflictRelation → List Entry → ℕ → List Entry → Pairs
pairs_of_last table running p es i k = pairs_from table running es i k - pairs_from table running (without_last p es) i k

-- the pairs that the tables make
abbrev pub pairs_in : Tables → Pairs
pairs_in t = pairs_from (do_conflict t.conflicts) (steps_under_way t.processes) t.net

-- rows of counts: what the row at place a counts at place b
abbrev pub count_at : List (List ℕ) → ℕ → ℕ → ℕ
count_at counts a b = cell_or 0 counts a b

-- what the counts say of two processes
abbrev pub counted : List OpenProcess → List (List ℕ) → Pairs
counted rows counts i k = count_at counts (place_of i rows) (place_of k rows)

-- by places, there is an arrow where pairs are counted
abbrev pub arrow_at : List (List ℕ) → Arrow
arrow_at counts a b = nat_lt 0 (count_at counts a b)

-- pairs are added to the counts of these processes
pub record IsCounted (rows : List OpenProcess) (added : Pairs) (old new : List (List ℕ)) : Type 0 where
  pub count : length new ≡ length old
  pub tell : (i k : ℕ) → has_number i rows ≡ true → has_number k rows ≡ true
      → counted rows new i k ≡ counted rows old i k + added i k

-- no count grows too large by them
abbrev pub HasRoomFor : List OpenProcess → Pairs → List (List ℕ) → Type 0
HasRoomFor rows added counts =
    (i k : ℕ) → has_number i rows ≡ true → has_number k rows ≡ true → counted rows counts i k + added i k < 4294967296

-- pairs are taken off the counts of these processes, and unless arrows are gone, each arrow stays
pub record IsUncounted (rows : List OpenProcess) (taken : Pairs) (gone : Bool) (old new : List (List ℕ)) : Type 0 where
  pub count : length new ≡ length old
  pub tell : (i k : ℕ) → has_number i rows ≡ true → has_number k rows ≡ true
      → counted rows old i k ≡ counted rows new i k + taken i k
  pub stays : gone ≡ false → (i k : ℕ) → has_number i rows ≡ true → has_number k rows ≡ true → 0 < counted rows old i k
      → 0 < counted rows new i k

-- they are among those that are counted
abbrev pub AreCounted : List OpenProcess → Pairs → List (List ℕ) → Type 0
AreCounted rows taken counts = (i k : ℕ) → has_number i rows ≡ true → has_number k rows ≡ true → taken i k ≤ counted rows counts i k

-- the counts are those of the pairs that the tables make
pub record TellCounts (t : Tables) (counts : List (List ℕ)) : Type 0 where
  pub rows : AreRows t.processes counts
  pub tell : (i k : ℕ) → is_open t i ≡ true → is_open t k ≡ true → counted t.processes counts i k ≡ pairs_in t i k

-- once these are added
pub record TellCountsBut (t : Tables) (added : Pairs) (counts : List (List ℕ)) : Type 0 where
  pub rows : AreRows t.processes counts
  pub tell : (i k : ℕ) → is_open t i ≡ true → is_open t k ≡ true → pairs_in t i k ≡ counted t.processes counts i k + added i k
