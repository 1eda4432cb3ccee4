-- What is told of a catalog, and whether it names each conflict in value.
use Rattle.std.proofs.Common.{◌≡◌, ℕ, List, Option, Some, None, inl, inr, refl, sym, ap, ◌∙◌, arith}
use Rattle.std.specs.Option.{option_map}
use Rattle.std.proofs.lemmas.Bool.{true≢false}
use Rattle.commute_table.specs.declared.catalog.Catalog.{Catalog}
use Rattle.value_conflict.specs.Names.{commuting_names, names_at}
use Rattle.value_conflict.specs.ValueConflict.{first_commuting, IsValueSound}
use Rattle.value_conflict.proofs.LeastPair.{first_commuting-is_exact}
use Rattle.command_refusals.specs.declared.status.Status.TheVariants.{NoMemory}
use Rattle.command_refusals.specs.declared.refusal.Refusal.{Refusal}
use Rattle.command_refusals.specs.Refusals.{refusal_status}
use Rattle.replay_run.specs.Soundness.{IsUnsound}

-- a pair that is found breaks it
pub pair_breaks : (c : Catalog) (x y : ℕ) → first_commuting c ≡ Some (x, y) → ¬ IsValueSound c
pair_breaks c x y is sound =
    let least = (first_commuting-is_exact c).some x y is in
    true≢false (sym least.is ∙ sound x y (omega (arith, least.ordered, least.there)) least.there)

found_breaks : (c : Catalog) (found : Option (ℕ × ℕ)) (a b : List ℕ) → first_commuting c ≡ found → option_map (names_at c) found ≡ Some (a, b) → ¬ IsValueSound c
found_breaks c None a b is names sound = absurd (cc)
found_breaks c (Some pair) a b is names sound = pair_breaks c pair.0 pair.1 is sound

pub names_break : (c : Catalog) (a b : List ℕ) → commuting_names c ≡ Some (a, b) → ¬ IsValueSound c
names_break c a b names = found_breaks c (first_commuting c) a b refl names

-- where no names are told it is kept
pub none_is_sound : (c : Catalog) → commuting_names c ≡ None → IsValueSound c
none_is_sound c names = by (first_commuting c) refl names
  where
    by : (found : Option (ℕ × ℕ)) → first_commuting c ≡ found → option_map (names_at c) found ≡ None → IsValueSound c
    by None is names = (first_commuting-is_exact c).none is
    by (Some pair) is names = absurd (cc)

-- A catalog that names each conflict in value is refused for want of memory alone.
pub unsound_memory : (c : Catalog) (r : Refusal) → IsValueSound c → IsUnsound c r → refusal_status r ≡ NoMemory
unsound_memory c r sound (inl memory) = ap refusal_status memory
unsound_memory c r sound (inr pair) = absurd (names_break c pair.0 pair.1 pair.3 sound)
