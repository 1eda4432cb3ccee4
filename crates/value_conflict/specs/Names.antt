-- The names of operations that conflict in value, though a catalog names no conflict of them.
use Rattle.std.specs.Prelude.{ℕ, List, Option}
use Rattle.std.specs.Option.{option_map}
use Rattle.commute_table.specs.declared.catalog.Catalog.{Catalog}
use Rattle.value_conflict.specs.ValueConflict.{first_commuting, op_at}

-- the names of two operations
abbrev pub names_at : Catalog → ℕ × ℕ → List ℕ × List ℕ
names_at c pair = ((op_at c.ops pair.0).name, (op_at c.ops pair.1).name)

-- those of the least pair, where there is one
abbrev pub commuting_names : Catalog → Option (List ℕ × List ℕ)
commuting_names c = option_map (names_at c) (first_commuting c)
