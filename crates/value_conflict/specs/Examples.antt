-- Worked examples, computed.
use Rattle.std.specs.Prelude.{◌≡◌, ℕ, List, [], ◌∷◌, codes, Some, None, refl}
use Rattle.process_tree.specs.declared.conflicts.Mode.TheVariants.{Always, Key}
use Rattle.process_tree.specs.Conflicts.{Table, no_conflicts, with_mode}
use Rattle.commute_table.specs.declared.op.Op.{Op}
use Rattle.commute_table.specs.declared.op.Verb.{Verb}
use Rattle.commute_table.specs.declared.op.Verb.TheVariants.{Add, Take, Put}
use Rattle.commute_table.specs.declared.catalog.Catalog.{Catalog}
use Rattle.value_conflict.specs.ValueConflict.{first_commuting}

abbrev op : List ℕ → ℕ → Verb → Op
op name subsystem verb = record { name = name; subsystem = subsystem; verb = verb }

abbrev ops : List Op
ops = op (codes "add") 0 Add ∷ op (codes "take") 0 Take ∷ op (codes "pay") 1 Add ∷ op (codes "ship") 2 Add ∷ op (codes "note") 4 Put ∷ []

abbrev catalog : Table → Catalog
catalog table = record { version = 2; ops = ops; conflicts = table }

-- each conflict in value is named
named : first_commuting (catalog (with_mode (with_mode (with_mode (no_conflicts 5) 0 1 Key) 1 1 Key) 4 4 Always)) ≡ None
named = refl

-- that of takes may be left out
takes_left_out : first_commuting (catalog (with_mode (with_mode (no_conflicts 5) 0 1 Key) 4 4 Always)) ≡ None
takes_left_out = refl

-- but not that of adds and takes
add_and_take_left_out : first_commuting (catalog (with_mode (with_mode (no_conflicts 5) 1 1 Key) 4 4 Always)) ≡ Some (0, 1)
add_and_take_left_out = refl

-- nor that of notes, which is of an operation with itself
notes_left_out : first_commuting (catalog (with_mode (with_mode (no_conflicts 5) 0 1 Key) 1 1 Always)) ≡ Some (4, 4)
notes_left_out = refl
