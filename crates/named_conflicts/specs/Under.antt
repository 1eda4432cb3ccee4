-- The operations of one catalog under the conflicts of another: each conflicts as the one of its name does there.
use Rattle.std.specs.Prelude.{◌≡◌, ◌⊎◌, ◌<◌, ◌≤◌, ℕ, Bool, true, false, List, [], ◌∷◌, find, length, Option, Some, None}
use Rattle.std.specs.Prelude.{option_and_then}
use Rattle.std.specs.List.{slice_get}
use Rattle.process_tree.specs.Conflicts.{Table, mode_of, operations_in}
use Rattle.process_tree.specs.declared.conflicts.Mode.{Mode}
use Rattle.process_tree.specs.declared.conflicts.Mode.TheVariants.{Never}
use Rattle.process_tree.specs.declared.plan.Plan.{Plan}
use Rattle.commute_table.specs.Document.{number_of}
use Rattle.commute_table.specs.declared.catalog.Catalog.{Catalog}
use Rattle.commute_table.specs.declared.op.Op.{Op}

-- the number that operation k of these has among others, by its name
abbrev pub number_under : List Op → List Op → ℕ → Option ℕ
number_under others ops k = option_and_then (λ (o : Op). number_of others o.name) (slice_get ops k)

-- it has none
abbrev pub is_none : Option ℕ → Bool
is_none None = true
is_none (Some n) = false

-- the first of two, if there is one
abbrev pub first_of : Option ℕ → Option ℕ → Option ℕ
first_of None o = o
first_of (Some k) o = Some k

-- the first operation of these plans, in their order and that of their steps, whose name no other has
abbrev pub first_unknown : List Op → List Op → List Plan → Option ℕ
first_unknown others ops [] = None
first_unknown others ops (p ∷ ps) =
    first_of (find (λ k. is_none (number_under others ops k)) p.ops) (first_unknown others ops ps)

-- the mode of two operations, where both are there; else they never conflict
abbrev pub mode_at : Table → Option ℕ → Option ℕ → Mode
mode_at t None o = Never
mode_at t (Some a) None = Never
mode_at t (Some a) (Some b) = mode_of t a b

-- the mode of operations a and b under another catalog, by their names
abbrev pub named_mode : Catalog → List Op → ℕ → ℕ → Mode
named_mode c ops a b = mode_at c.conflicts (number_under c.ops ops a) (number_under c.ops ops b)

-- The second catalog under the first: its operations, with the version and the conflicts of the first.
pub record IsUnder (c own under : Catalog) : Type 0 where
  pub version : under.version ≡ c.version
  pub ops : under.ops ≡ own.ops
  pub all : operations_in under.conflicts ≡ length own.ops
  pub modes : (a b : ℕ) → a < length own.ops → b < length own.ops
      → mode_of under.conflicts a b ≡ named_mode c own.ops a b
  -- a number of none of them conflicts with nothing
  pub others : (a b : ℕ) → length own.ops ≤ a ⊎ length own.ops ≤ b → mode_of under.conflicts a b ≡ Never

-- a catalog of few enough operations, with a table of just these
pub record HasItsTable (c : Catalog) : Type 0 where
  pub few : length c.ops ≤ 256
  pub all : operations_in c.conflicts ≡ length c.ops
