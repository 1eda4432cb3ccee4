-- Which forward effects an undo can be of.
use Rattle.std.specs.Prelude.{ℕ, ◌+◌, ◌-◌, Bool, List, [], ◌∷◌, Option, Some, None, if◌then◌else◌}
use Rattle.subsystem_store.specs.declared.effect.Effect.{Effect}
use Rattle.subsystem_store.specs.declared.effect.Undoable.{Undoable}
use Rattle.subsystem_store.specs.Values.{is_of}

abbrev pub later_place : Effect → Undoable → Option ℕ → Option ℕ
later_place undo first (Some place) = Some (place + 1)
later_place undo first None = if is_of undo first.effect then Some 0 else None

-- its place among these, from 0
abbrev pub last_place : Effect → List Undoable → Option ℕ
last_place undo [] = None
last_place undo (first ∷ others) = later_place undo first (last_place undo others)

-- one for a yes
abbrev pub one_if : Bool → ℕ
one_if b = if b then 1 else 0

-- how many of these an undo can be of
abbrev pub count_of : Effect → List Undoable → ℕ
count_of undo [] = 0
count_of undo (first ∷ others) = one_if (is_of undo first.effect) + count_of undo others

-- how many are left of so many behind an effect: one that the undo could be of comes, or is undone
abbrev pub left_after : Effect → ℕ → Effect → ℕ
left_after undo n e = if is_of undo e then (if e.undo then n - 1 else n + 1) else n

-- and behind several
abbrev pub left_of : Effect → ℕ → List Effect → ℕ
left_of undo n [] = n
left_of undo n (e ∷ effects) = left_of undo (left_after undo n e) effects
