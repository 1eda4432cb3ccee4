-- The first of what is reserved is known and fits as all of it does.
use Rattle.std.proofs.Common.{ℕ, zero, suc, ◌≤◌, List, [], ◌∷◌, length, take, arith, length-take}
use Rattle.process_tree.specs.Conflicts.{Table}
use Rattle.hold_tables.specs.Kept.{AreKnown}

pub known_first : (table : Table) (n : ℕ) (planned : List (ℕ × ℕ × ℕ)) → AreKnown table planned → AreKnown table (take n planned)
known_first table zero planned known = tt
known_first table (suc n) [] known = tt
known_first table (suc n) (step ∷ planned) known = (known.0, known_first table n planned known.1)

pub few_first : (n most : ℕ) (planned : List (ℕ × ℕ × ℕ)) → length planned ≤ most → length (take n planned) ≤ most
few_first n most planned few = let taken = length-take n planned in omega arith
