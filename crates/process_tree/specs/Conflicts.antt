-- Which operations conflict: a symmetric table of modes.
use Rattle.std.specs.Prelude.{ℕ, suc, zero, ◌-◌, min, max, Bool, true, false, ◌&&◌, ◌||◌, List, [], ◌∷◌, length, replicate, nat_eq}
use Rattle.std.specs.Prelude.{slice_index_or, slice_set}
use Rattle.process_tree.specs.declared.conflicts.Mode.{Mode}
use Rattle.process_tree.specs.declared.conflicts.Mode.TheVariants.{Never, Key, Always}

-- what a step does: an operation, on a key
pub record Access : Type 0 where
  pub op : ℕ
  pub key : ℕ

-- two accesses are one
abbrev pub same_access : Access → Access → Bool
same_access a b = nat_eq a.op b.op && nat_eq a.key b.key

-- A table of conflicts has a row for each operation. The first cell of row a is the mode of operation a with itself, the
-- next that of a and a + 1, and so on to the last operation. So each pair stands once.
abbrev pub Table : Type 0
Table = List (List Mode)

-- each row has a cell for its own operation and for each later one
abbrev pub is_table : Table → Bool
is_table [] = true
is_table (row ∷ rows) = nat_eq (length row) (suc (length rows)) && is_table rows

-- how many operations the table is of
abbrev pub operations_in : Table → ℕ
operations_in t = length t

-- the mode of operations a and b
abbrev pub mode_of : Table → ℕ → ℕ → Mode
mode_of t a b = slice_index_or (slice_index_or t (min a b) []) (max a b - min a b) Never

-- whether steps with these keys conflict, by the mode of their operations: never, where their keys are equal, or always
abbrev pub covers : Mode → ℕ → ℕ → Bool
covers Never k m = false
covers Key k m = nat_eq k m
covers Always k m = true

-- whether two accesses conflict
abbrev pub do_conflict : Table → Access → Access → Bool
do_conflict t a b = covers (mode_of t a.op b.op) a.key b.key

-- no two of these operations conflict
abbrev pub no_conflicts : ℕ → Table
no_conflicts zero = []
no_conflicts (suc n) = replicate (suc n) Never ∷ no_conflicts n

-- the same, and a and b have this mode
abbrev pub with_mode : Table → ℕ → ℕ → Mode → Table
with_mode t a b mode =
    slice_set t (min a b) (slice_set (slice_index_or t (min a b) []) (max a b - min a b) mode)

-- a and b are c and d, in this order or the other
abbrev pub is_same_pair : ℕ → ℕ → ℕ → ℕ → Bool
is_same_pair a b c d = (nat_eq a c && nat_eq b d) || (nat_eq a d && nat_eq b c)
