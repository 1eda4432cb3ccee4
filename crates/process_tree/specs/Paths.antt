-- Whole paths, one by one.
use Rattle.std.specs.Prelude.{ℕ, ◌+◌, List, [], ◌∷◌, ◌++◌, map, length, Option, Some, None, if◌then◌else◌, nat_eq, nat_lt}
use Rattle.std.specs.List.{slice_get}
use Rattle.process_tree.specs.Blocks.{Outline}
use Rattle.process_tree.specs.Shape.{first_of, lesser, greater, steps_before}

-- the whole paths of a block whose first step has number n, each behind the steps before it
abbrev pub paths_from : List ℕ → ℕ → Outline → List (List ℕ)
paths_from before n o = map (λ p. before ++ map (λ k. n + k) p) o.paths

-- the step after b on a path, if b is on it and isn't its last
abbrev pub behind : ℕ → List ℕ → Option ℕ
behind b [] = None
behind b (x ∷ p) = if nat_eq x b then first_of p else behind b p

-- the step after the last one, or the first
abbrev pub step_behind : Option ℕ → List ℕ → Option ℕ
step_behind None p = first_of p
step_behind (Some b) p = behind b p

-- the lesser of two, where they are there
abbrev pub lesser_of : Option ℕ → Option ℕ → Option ℕ
lesser_of None o = o
lesser_of (Some x) o = lesser x o

-- the greater of two, where they are there
abbrev pub greater_of : Option ℕ → Option ℕ → Option ℕ
greater_of None o = o
greater_of (Some x) o = greater x o

-- how many steps a path and w have in common at their beginnings
abbrev pub shared : List ℕ → List ℕ → ℕ
shared [] p = 0
shared (x ∷ w) [] = 0
shared (x ∷ w) (y ∷ p) = if nat_eq x y then shared w p + 1 else 0

-- how many steps of w stand up to a commit point of it, that one included
abbrev pub kept_len : List ℕ → Option ℕ → ℕ
kept_len w None = 0
kept_len w (Some c) = length (steps_before c w) + 1

-- a step, if it is greater than b
abbrev pub if_later : ℕ → Option ℕ → Option ℕ
if_later b None = None
if_later b (Some d) = if nat_lt b d then Some d else None

-- the step with which a path leaves w, if that is after b and the first `fixed` steps are kept
abbrev pub way_from : ℕ → List ℕ → ℕ → List ℕ → Option ℕ
way_from fixed w b p = if nat_lt (shared w p) fixed then None else if_later b (slice_get p (shared w p))

-- the last of a list, or what there was before it
abbrev pub last_or : Option ℕ → List ℕ → Option ℕ
last_or last [] = last
last_or last (x ∷ xs) = last_or (Some x) xs
