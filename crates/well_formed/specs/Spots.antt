-- Steps at places of whole paths.
use Rattle.std.specs.Prelude.{ℕ, zero, suc, ◌&&◌, Bool, false, List, [], ◌∷◌, length, Option, Some, None, if◌then◌else◌, nat_eq}
use Rattle.std.specs.Prelude.{nat_lt, not, slice_index}
use Rattle.std.specs.List.{slice_get}
use Rattle.process_tree.specs.Shape.{first_of, last_of}

-- it is this step
abbrev pub is_step : ℕ → Option ℕ → Bool
is_step c None = false
is_step c (Some x) = nat_eq x c

-- this step stands at that place of the path
abbrev pub stands_at : ℕ → ℕ → List ℕ → Bool
stands_at c k p = is_step c (slice_get p k)

-- the step at place k of a path that has the same step as w just before it
abbrev pub step_on : ℕ → List ℕ → List ℕ → Option ℕ
step_on zero w p = first_of p
step_on (suc k) w p = if stands_at (slice_index w k) k p then slice_get p (suc k) else None

-- a step, if it is less than d
abbrev pub if_earlier : ℕ → Option ℕ → Option ℕ
if_earlier d None = None
if_earlier d (Some e) = if nat_lt e d then Some e else None

-- the step with which a path goes on from w, if that is less than d
abbrev pub earlier_way : List ℕ → ℕ → List ℕ → Option ℕ
earlier_way w d p = if_earlier d (step_on (length w) w p)

-- a step is greater than b
abbrev pub is_later : ℕ → Option ℕ → Bool
is_later b None = false
is_later b (Some d) = nat_lt b d

-- a path with the last of the first k + 1 steps of w that leaves w, or b behind it, for later steps
abbrev pub leaves_later : ℕ → List ℕ → ℕ → List ℕ → Bool
leaves_later k w b p = stands_at (slice_index w k) k p && not (stands_at b (length w) p) && is_later b (last_of p)

-- the last of these paths that has the step at that place, or what was found before
abbrev pub last_through : ℕ → ℕ → List (List ℕ) → List ℕ → List ℕ
last_through c k [] found = found
last_through c k (p ∷ ps) found = last_through c k ps (if stands_at c k p then p else found)
