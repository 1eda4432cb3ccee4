-- Worked examples of staged bodies.
use Rattle.std.specs.Prelude.{◌≡◌, List, ℕ, [], ◌∷◌, refl}
use Rattle.gate_log.specs.Staging.{plain_records, staged_in}

-- the bodies `hi` and none at all
abbrev pub two_bodies : List (List ℕ)
two_bodies = (0x68 ∷ 0x69 ∷ []) ∷ [] ∷ []

-- each behind a gate of 1 and its length, and a closed gate behind both
pub two_records : plain_records two_bodies ≡ 1 ∷ 2 ∷ 0 ∷ 0x68 ∷ 0x69 ∷ 1 ∷ 0 ∷ 0 ∷ 0 ∷ []
two_records = refl

-- which are those of these two
pub two_are_staged : staged_in (1 ∷ 2 ∷ 0 ∷ 0x68 ∷ 0x69 ∷ 1 ∷ 0 ∷ 0 ∷ 0 ∷ []) ≡ two_bodies
two_are_staged = refl
