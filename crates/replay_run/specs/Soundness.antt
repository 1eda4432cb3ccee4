-- Whether a catalog names each conflict in value, as a test of commands.
use Rattle.std.specs.Prelude.{◌≡◌, ◌⊎◌, ⊤, ℕ, List, Some}
use Rattle.commute_table.specs.declared.catalog.Catalog.{Catalog}
use Rattle.value_conflict.specs.Names.{commuting_names}
use Rattle.value_conflict.specs.ValueConflict.{IsValueSound}
use Rattle.command_refusals.specs.declared.refusal.Refusal.{Refusal}
use Rattle.command_refusals.specs.declared.refusal.Refusal.TheVariants as refusals
use Rattle.command_refusals.specs.Order.{Test}

-- The catalog doesn't name each conflict in value: the least pair of operations that it leaves out is told; or memory was wanting.
abbrev pub IsUnsound : Catalog → Refusal → Type 0
IsUnsound c r =
    (r ≡ refusals.NoMemory) ⊎ ((a b : List ℕ) × (r ≡ refusals.Commuting a b) × (commuting_names c ≡ Some (a, b)))

-- the test of a catalog: it names each conflict in value
abbrev pub sound_test : Catalog → Test Refusal ⊤
sound_test c = record { hands_on = λ _. IsValueSound c; refuses = IsUnsound c }
