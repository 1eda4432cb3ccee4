-- The shape of a process: the kinds of its steps in text order, and its whole paths in text order, each a list of step
-- numbers. Play, termination, own order and recovery speak of these two lists alone.
use Rattle.std.specs.Prelude.{◌≡◌, ◌⊎◌, ℕ, zero, suc, ◌+◌, ◌++◌, Bool, true, false, List, [], ◌∷◌, length, take, drop, map, Option}
use Rattle.std.specs.Prelude.{Some, None, if◌then◌else◌, nat_eq, nat_lt, slice_index_or}
use Rattle.std.specs.List.{list_any, starts_with, filter_map}
use lib.Pointwise.{pointwise}
use Rattle.process_tree.specs.declared.step.StepKind.{StepKind}
use Rattle.process_tree.specs.declared.step.StepKind.TheVariants.{C, P, R, Cr}
use Rattle.process_tree.specs.declared.block.Block.{Block}
use Rattle.process_tree.specs.Blocks.{outline}

pub record Shape : Type 0 where
  pub kinds : List StepKind
  pub paths : List (List ℕ)

-- the shape of a block
abbrev pub shape_of : Block → Shape
shape_of b = record { kinds = map (λ s. s.kind) (outline b).steps; paths = (outline b).paths }

-- the shape with these kinds and paths
abbrev pub shape_by : List StepKind → List (List ℕ) → Shape
shape_by kinds paths = record { kinds = kinds; paths = paths }

-- the kind of a step
abbrev pub kind_of : Shape → ℕ → StepKind
kind_of t b = slice_index_or t.kinds b C

-- whether a step of this kind is a commit point once it took effect, where forward recovery owes it or not
abbrev pub commits_by_kind : StepKind → Bool → Bool
commits_by_kind C owed = false
commits_by_kind P owed = true
commits_by_kind R owed = true
commits_by_kind Cr owed = owed

-- whether a step of this kind can be refused
abbrev pub can_be_refused : StepKind → Bool
can_be_refused C = true
can_be_refused P = true
can_be_refused R = false
can_be_refused Cr = false

-- whether a step of this kind can be undone, where it is no commit point
abbrev pub can_be_undone : StepKind → Bool
can_be_undone C = true
can_be_undone P = false
can_be_undone R = false
can_be_undone Cr = true

-- whether a list is that one
abbrev pub same_steps : List ℕ → List ℕ → Bool
same_steps xs ys = pointwise nat_eq xs ys

-- w is a whole path
abbrev pub is_whole : Shape → List ℕ → Bool
is_whole t w = list_any (same_steps w) t.paths

-- w is an end: a whole path or nothing
abbrev pub is_end : Shape → List ℕ → Bool
is_end t [] = true
is_end t (b ∷ w) = is_whole t (b ∷ w)

-- the first of a list
abbrev pub first_of : List ℕ → Option ℕ
first_of [] = None
first_of (b ∷ bs) = Some b

-- the steps that go on from w along some whole path, in text order; one step stands as often as there are such paths
abbrev pub next_steps : Shape → List ℕ → List ℕ
next_steps t w = filter_map (λ p. if starts_with nat_eq p w then first_of (drop (length w) p) else None) t.paths

-- whether w with d is the beginning of a whole path
abbrev pub goes_on_to : Shape → List ℕ → ℕ → Bool
goes_on_to t w d = list_any (nat_eq d) (next_steps t w)

-- w is nothing, or goes along a whole path
abbrev pub IsBranch : Shape → List ℕ → Type 0
IsBranch t w = (w ≡ []) ⊎ ((v : List ℕ) × (b : ℕ) × (w ≡ v ++ b ∷ []) × (goes_on_to t v b ≡ true))

-- the lesser of x and y, if there is a y
abbrev pub lesser : ℕ → Option ℕ → Option ℕ
lesser x None = Some x
lesser x (Some y) = if nat_lt x y then Some x else Some y

-- the least of a list
abbrev pub least : List ℕ → Option ℕ
least [] = None
least (x ∷ xs) = lesser x (least xs)

-- the greater of x and y, if there is a y
abbrev pub greater : ℕ → Option ℕ → Option ℕ
greater x None = Some x
greater x (Some y) = if nat_lt y x then Some x else Some y

-- the greatest of a list
abbrev pub greatest : List ℕ → Option ℕ
greatest [] = None
greatest (x ∷ xs) = greater x (greatest xs)

-- this step, if there is one, and what follows it
abbrev pub with_rest : (ℕ → List ℕ) → Option ℕ → List ℕ
with_rest rest None = []
with_rest rest (Some d) = d ∷ rest d

-- what follows v on the whole path that takes the last alternative at each choice, as far as n steps
abbrev pub last_path : ℕ → Shape → List ℕ → List ℕ
last_path zero t v = []
last_path (suc n) t v = with_rest (λ d. last_path n t (v ++ d ∷ [])) (greatest (next_steps t v))

-- the same to its end
abbrev pub last_after : Shape → List ℕ → List ℕ
last_after t v = last_path (length t.kinds) t v

-- what is owed where the first `fixed` steps of w stand up to the last commit point: what follows it through last
-- alternatives; nothing where there is none
abbrev pub owed_from : Shape → List ℕ → ℕ → List ℕ
owed_from t w fixed = if nat_eq fixed 0 then [] else last_after t (take fixed w)

-- whether b is a commit point where w is done before it, of which that many steps stand up to the last one
abbrev pub commits_behind : Shape → List ℕ → ℕ → ℕ → Bool
commits_behind t w fixed b = commits_by_kind (kind_of t b) (list_any (nat_eq b) (owed_from t w fixed))

-- how many steps of v and w, one after another, stand up to the last commit point, where that many of v do
abbrev pub fixed_from : Shape → List ℕ → List ℕ → ℕ → ℕ
fixed_from t v [] fixed = fixed
fixed_from t v (b ∷ w) fixed = fixed_from t (v ++ b ∷ []) w (if commits_behind t v fixed b then length v + 1 else fixed)

-- how many steps of w stand up to its last commit point, that one included
abbrev pub fixed_len : Shape → List ℕ → ℕ
fixed_len t w = fixed_from t [] w 0

-- whether b is a commit point where w is done before it
abbrev pub commits_after : Shape → List ℕ → ℕ → Bool
commits_after t w b = commits_behind t w (fixed_len t w) b

-- the last of a list
abbrev pub last_of : List ℕ → Option ℕ
last_of [] = None
last_of (b ∷ []) = Some b
last_of (b ∷ c ∷ bs) = last_of (c ∷ bs)

-- the last commit point of w
abbrev pub last_commit : Shape → List ℕ → Option ℕ
last_commit t w = last_of (take (fixed_len t w) w)

-- the first of these paths that has b
abbrev pub path_through : ℕ → List (List ℕ) → List ℕ
path_through b [] = []
path_through b (p ∷ ps) = if list_any (nat_eq b) p then p else path_through b ps

-- the steps of a path before b
abbrev pub steps_before : ℕ → List ℕ → List ℕ
steps_before b [] = []
steps_before b (x ∷ xs) = if nat_eq x b then [] else x ∷ steps_before b xs

-- the branch to b: the steps before it on the first whole path that has it
abbrev pub branch_to : Shape → ℕ → List ℕ
branch_to t b = steps_before b (path_through b t.paths)

-- whether b is a commit point, the steps before it on its branch being done
abbrev pub commits : Shape → ℕ → Bool
commits t b = commits_after t (branch_to t b) b
