-- Recovery: what a process that is cut off has to undo, and the path that it still owes. w is what is done and not undone.
use Rattle.std.specs.Prelude.{ℕ, List, [], ◌∷◌, ◌++◌, drop, Option, Some, None, if◌then◌else◌, nat_eq}
use Rattle.std.specs.List.{list_any}
use Rattle.process_tree.specs.declared.step.StepKind.{StepKind}
use Rattle.process_tree.specs.declared.step.StepKind.TheVariants.{C, P, R, Cr}
use Rattle.process_tree.specs.declared.play.Place.{Place}
use Rattle.process_tree.specs.declared.play.Place.TheVariants.{Step, End}
use Rattle.process_tree.specs.Shape.{Shape, kind_of, next_steps, least, greatest, last_after, owed_from, fixed_len, branch_to}

-- backward recovery: what stands after the last commit point
abbrev pub backward : Shape → List ℕ → List ℕ
backward t w = drop (fixed_len t w) w

-- forward recovery: what follows the last commit point through last alternatives; nothing where there is none
abbrev pub forward : Shape → List ℕ → List ℕ
forward t w = owed_from t w (fixed_len t w)

-- what is owed where c is the last commit point
abbrev pub owed_behind : Shape → Option ℕ → List ℕ
owed_behind t None = []
owed_behind t (Some c) = last_after t (branch_to t c ++ c ∷ [])

-- the place of a step, or the end
abbrev pub place_of : Option ℕ → Place
place_of None = End
place_of (Some b) = Step b

-- the place where the process begins
abbrev pub first_place : Shape → Place
first_place t = place_of (least (next_steps t []))

-- the place after a step through first alternatives
abbrev pub place_after : Shape → ℕ → Place
place_after t b = place_of (least (next_steps t (branch_to t b ++ b ∷ [])))

-- the place after a step through last alternatives
abbrev pub last_place_after : Shape → ℕ → Place
last_place_after t b = place_of (greatest (next_steps t (branch_to t b ++ b ∷ [])))

-- the classes of a next step d: owed by forward recovery, a new commit point, or one that can be undone
pub data StepClass : Type 0 where
  reserved : StepClass
  committing : StepClass
  undoable : StepClass

-- the class of a step that isn't reserved
abbrev pub class_by_kind : StepKind → StepClass
class_by_kind C = undoable
class_by_kind P = committing
class_by_kind R = committing
class_by_kind Cr = undoable

abbrev pub class_of : Shape → List ℕ → ℕ → StepClass
class_of t w d = if list_any (nat_eq d) (forward t w) then reserved else class_by_kind (kind_of t d)
