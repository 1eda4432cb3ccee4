-- What is answered of a catalog, as the pair that it tells of.
use Rattle.std.specs.Prelude.{ℕ, Option, Some, None, Result, Ok, Err}
use Rattle.value_conflict.specs.declared.soundness.Commuting.{Commuting}

-- the pair of an operation and another one
abbrev pub pair_with : ℕ → Option ℕ → Option (ℕ × ℕ)
pair_with a None = None
pair_with a (Some b) = Some (a, b)

-- the pair that an answer tells of
abbrev pub pair_of : {T : Type 0} → Result T Commuting → Option (ℕ × ℕ)
pair_of (Ok done) = None
pair_of (Err pair) = Some (pair.a, pair.b)
