-- How much room effects in doubt take.
use Rattle.std.specs.Prelude.{◌≡◌, ◌⊎◌, ◌≤◌, ⊤, ℕ, ◌+◌, true, List, [], ◌∷◌, ◌++◌, length, All, if◌then◌else◌}
use Rattle.std.specs.List.{Contains}
use Rattle.resource_box.specs.declared.call.Kind.{Kind}
use Rattle.subsystem_store.specs.declared.effect.Effect.{Effect}
use Rattle.subsystem_store.specs.Values.{can_undo}

-- how many of these are forward: each needs a place for its undo beside its own
abbrev pub forwards : List Effect → ℕ
forwards [] = 0
forwards (e ∷ effects) = (if e.undo then 0 else 1) + forwards effects

-- how many are undos, each of which has its place already
abbrev pub undos : List Effect → ℕ
undos [] = 0
undos (e ∷ effects) = (if e.undo then 1 else 0) + undos effects

-- each undo among these can be of something, of the book or of those before it
abbrev pub UndosFind : Kind → List Effect → List Effect → Type 0
UndosFind kind book [] = ⊤
UndosFind kind book (e ∷ effects) = (e.undo ≡ true → can_undo kind book e ≡ true) × UndosFind kind (book ++ e ∷ []) effects

-- Room is made for these effects: for each forward one at its key.
pub record HasRoom (ready : List ℕ) (effects : List Effect) : Type 0 where
  pub keys : All (λ (e : Effect). (e.undo ≡ true) ⊎ Contains ready e.call.key) effects
  pub many : forwards effects ≤ length ready
