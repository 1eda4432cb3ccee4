-- Conflict of entries.
use Rattle.std.specs.Prelude.{◌≡◌, Bool, false, not, ◌&&◌, nat_eq}
use Rattle.process_tree.specs.declared.entry.Entry.{Entry}
use Rattle.process_tree.specs.Conflicts.{Access}
use Rattle.process_tree.specs.Entries.{access_of}

-- a conflict relation says of two accesses whether they conflict; the table of a catalog gives one
abbrev pub ConflictRelation : Type 0
ConflictRelation = Access → Access → Bool

-- it holds of each pair both ways
abbrev pub IsSymmetric : ConflictRelation → Type 0
IsSymmetric table = (a b : Access) → table a b ≡ table b a

-- two entries conflict where their processes differ and their accesses conflict; it is the same whether they are
-- steps or undos, done, running, reserved or pending
abbrev pub conflict : ConflictRelation → Entry → Entry → Bool
conflict table a b = not (nat_eq a.process b.process) && table (access_of a) (access_of b)

-- nothing conflicts: what holds over it, own order alone gives
abbrev pub no_conflict : ConflictRelation
no_conflict a b = false
