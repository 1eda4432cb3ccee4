-- What is said of lists of which entries are taken away.
use Rattle.std.specs.Prelude.{◌≡◌, ◌<◌, ◌≤◌, ℕ, Bool, true, false, List, ◌∷◌, ◌++◌, length, take, drop, nat_eq, Option, Some, None, IsTrue}
use Rattle.std.specs.List.{list_any}
use Rattle.process_tree.specs.Conflicts.{Table}
use Rattle.schedule_model.specs.Conflict.{ConflictRelation}
use Rattle.schedule_model.specs.Reduction.{is_pair}
use Rattle.schedule_rules.specs.Applying.{AreKnown}
use Rattle.dependence_model.specs.declared.placed.Placed.{Placed}
use Rattle.dependence_model.specs.Dependence.{can_go, entries_of, AreTaken}

-- the table has the operation of each of these entries
abbrev pub AreAllKnown : Table → List Placed → Type 0
AreAllKnown table xs = AreKnown table (entries_of xs)

-- the step at this place, counted from 0, and its undo are taken away, between which no chain leads
abbrev pub IsTakenAt : ConflictRelation → ℕ → List Placed → List Placed → Type 0
IsTakenAt table at xs ys = (before between after : List Placed) × (f u : Placed)
    × (length before ≡ at) × (xs ≡ before ++ f ∷ (between ++ u ∷ after)) × (ys ≡ before ++ (between ++ after))
    × IsTrue (is_pair f.entry u.entry) × IsTrue (can_go table f.entry (entries_of between) u.entry)

-- the step at this place, counted from 0, can't be taken away with its undo
abbrev pub StaysAt : ConflictRelation → ℕ → List Placed → Type 0
StaysAt table at xs = (ys : List Placed) → IsTakenAt table at xs ys → ⊥

-- what became of a list where the step at this place was looked at: it was taken away with its undo, or it can't be
abbrev pub TookAt : ConflictRelation → ℕ → List Placed → List Placed → Bool → Type 0
TookAt table at old new true = IsTakenAt table at old new
TookAt table at old new false = (new ≡ old) × StaysAt table at old

-- what became of a list in which each step was looked at: some were taken away, or nothing can be
abbrev pub TookSome : ConflictRelation → List Placed → List Placed → Bool → Type 0
TookSome table old new true = AreTaken table old new × (length new < length old)
TookSome table old new false = (new ≡ old) × ((at : ℕ) → StaysAt table at old)

-- the same where each step from this place on was looked at
abbrev pub TookFrom : ConflictRelation → ℕ → List Placed → List Placed → Bool → Type 0
TookFrom table from old new true = AreTaken table old new × (length new < length old)
TookFrom table from old new false = (new ≡ old) × ((at : ℕ) → from ≤ at → StaysAt table at old)

-- an entry of this process
abbrev pub is_own : ℕ → Placed → Bool
is_own i x = nat_eq x.entry.process i

-- so many of these entries stand before the first of process i
pub record AreBefore (i : ℕ) (xs : List Placed) (n : ℕ) : Type 0 where
  pub within : n ≤ length xs
  pub others : list_any (is_own i) (take n xs) ≡ false
  pub next : (x : Placed) (rest : List Placed) → drop n xs ≡ x ∷ rest → is_own i x ≡ true

-- The undo of the step at this place stands so many entries behind it, and no chain leads to it; or there is none.
abbrev pub IsUndoBehind : ConflictRelation → ℕ → List Placed → Option ℕ → Type 0
IsUndoBehind table at xs None = StaysAt table at xs
IsUndoBehind table at xs (Some n) = (before between after : List Placed) × (f u : Placed)
    × (length before ≡ at) × (length between ≡ n) × (xs ≡ before ++ f ∷ (between ++ u ∷ after))
    × IsTrue (is_pair f.entry u.entry) × IsTrue (can_go table f.entry (entries_of between) u.entry)
