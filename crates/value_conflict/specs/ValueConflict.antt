-- Which operations conflict in value, and which catalogs name each conflict in value.
use Rattle.std.specs.Prelude.{◌≡◌, ◌≤◌, ◌<◌, ℕ, Bool, true, false, not, ◌&&◌, ◌||◌, List, [], ◌∷◌, length, nat_eq, nat_lt, Option, Some, None}
use Rattle.std.specs.Prelude.{if◌then◌else◌, slice_index_or}
use Rattle.process_tree.specs.Blocks.{numbers_from}
use Rattle.process_tree.specs.Conflicts.{mode_of}
use Rattle.process_tree.specs.declared.conflicts.Mode.{Mode}
use Rattle.process_tree.specs.declared.conflicts.Mode.TheVariants.{Never, Key, Always}
use Rattle.commute_table.specs.declared.op.Verb.{Verb}
use Rattle.commute_table.specs.declared.op.Verb.TheVariants.{Add, Take, Look}
use Rattle.commute_table.specs.declared.op.Op.{Op}
use Rattle.commute_table.specs.declared.catalog.Catalog.{Catalog}

-- calls of these verbs may be made in either order: both look, both add, or both take
abbrev pub commute : Verb → Verb → Bool
commute Look Look = true
commute Add Add = true
commute Take Take = true
commute a b = false

-- operations of one subsystem conflict in value unless their verbs commute
abbrev pub conflict_in_value : Op → Op → Bool
conflict_in_value a b = nat_eq a.subsystem b.subsystem && not (commute a.verb b.verb)

-- the mode lets steps change places whatever their keys are
abbrev pub is_never : Mode → Bool
is_never Never = true
is_never Key = false
is_never Always = false

-- an operation that there isn't looks at subsystem 0
abbrev pub no_op : Op
no_op = record { name = []; subsystem = 0; verb = Look }

-- the operation of a number
abbrev pub op_at : List Op → ℕ → Op
op_at ops a = slice_index_or ops a no_op

-- operations a and b conflict in value, and the catalog names no conflict of them
abbrev pub is_commuting : Catalog → ℕ → ℕ → Bool
is_commuting c a b = conflict_in_value (op_at c.ops a) (op_at c.ops b) && is_never (mode_of c.conflicts a b)

-- the first of these numbers that is so with a
abbrev pub first_with : Catalog → ℕ → List ℕ → Option (ℕ × ℕ)
first_with c a [] = None
first_with c a (b ∷ bs) = if is_commuting c a b then Some (a, b) else first_with c a bs

-- one pair, or else another
abbrev pub or_else : Option (ℕ × ℕ) → Option (ℕ × ℕ) → Option (ℕ × ℕ)
or_else None later = later
or_else (Some pair) later = Some pair

-- the first number of these that is so with itself or a later one
abbrev pub first_among : Catalog → List ℕ → Option (ℕ × ℕ)
first_among c [] = None
first_among c (a ∷ rest) = or_else (first_with c a (a ∷ rest)) (first_among c rest)

-- the least pair, its first at most its second, of operations that conflict in value though the catalog names no conflict of them
abbrev pub first_commuting : Catalog → Option (ℕ × ℕ)
first_commuting c = first_among c (numbers_from 0 (length c.ops))

-- a catalog is value-sound where it names each conflict in value, one of an operation with itself too
abbrev pub IsValueSound : Catalog → Type 0
IsValueSound c = (a b : ℕ) → a < length c.ops → b < length c.ops → is_commuting c a b ≡ false

-- pair (a, b) comes before pair (d, e)
abbrev pub comes_before : ℕ → ℕ → ℕ → ℕ → Bool
comes_before a b d e = nat_lt a d || (nat_eq a d && nat_lt b e)

-- a and b are the least pair that is commuting
pub record IsFirstCommuting (c : Catalog) (a b : ℕ) : Type 0 where
  pub ordered : a ≤ b
  pub there : b < length c.ops
  pub is : is_commuting c a b ≡ true
  pub least : (d e : ℕ) → d ≤ e → e < length c.ops → comes_before d e a b ≡ true → is_commuting c d e ≡ false

-- What is found is the least pair, and where none is found the catalog is value-sound.
pub record FirstCommuting (c : Catalog) : Type 0 where
  pub none : first_commuting c ≡ None → IsValueSound c
  pub some : (a b : ℕ) → first_commuting c ≡ Some (a, b) → IsFirstCommuting c a b

abbrev pub FirstCommutingIsExact : Type 0
FirstCommutingIsExact = (c : Catalog) → FirstCommuting c
