-- The alternatives of a process as they stand in its blocks, each with the interval of its steps.
use Rattle.std.specs.Prelude.{◌≡◌, ℕ, ◌+◌, ◌<◌, ◌≤◌, Bool, true, List, [], ◌∷◌, ◌++◌, length, map, None, Some}
use Rattle.std.specs.List.{list_any}
use Rattle.process_tree.specs.declared.step.Step.{Step}
use Rattle.process_tree.specs.declared.block.Block.{Block}
use Rattle.process_tree.specs.declared.block.Tail.{Tail, End, Choice', Row_of-Block, end_of-Block, more_of-Block}
use Rattle.process_tree.specs.Blocks.{Outline, numbers_from, outline_of, outlines_of}
use Rattle.process_tree.specs.Making.{tree_fault}
use Rattle.process_tree.specs.Order.{Each, has}
use Rattle.process_tree.specs.Shape.{Shape, shape_of, goes_on_to}
use Rattle.process_tree.specs.Play.{fallback_of}
use Rattle.process_tree.specs.Laws.{IsInWay}
use Rattle.process_tree.specs.Termination.{is_later_way}

pub record Alternative : Type 0 where
  -- the steps before its choice
  pub before : List ℕ
  -- its first step
  pub first : ℕ
  -- the step behind its last
  pub behind : ℕ

-- the alternatives of one choice behind v, of which the first begins with step n
abbrev pub alternatives_from : List ℕ → ℕ → List Outline → List Alternative
alternatives_from v n [] = []
alternatives_from v n (o ∷ os) =
    record { before = v; first = n; behind = n + length o.steps } ∷ alternatives_from v (n + length o.steps) os

abbrev mutual
  -- the choices of a block behind v, of which the first step has number n, each as its alternatives
  pub choices_of : List ℕ → ℕ → List Step → Tail → List (List Alternative)
  choices_of v n steps End = []
  choices_of v n steps (Choice' shape blocks) =
      alternatives_from (v ++ numbers_from n (length steps)) (n + length steps) (outlines_of blocks)
      ∷ choices_in (v ++ numbers_from n (length steps)) (n + length steps) blocks

  -- the same of several blocks
  pub choices_in : List ℕ → ℕ → {m : _} → Row_of-Block m → List (List Alternative)
  choices_in v n end_of-Block = []
  choices_in v n (more_of-Block steps tail rest) =
      choices_of v n steps tail ++ choices_in v (n + length (outline_of steps tail).steps) rest

-- the choices of a process
abbrev pub choices : Block → List (List Alternative)
choices root = choices_of [] 0 root.steps root.tail

-- b is a step of the alternative
abbrev pub IsOf : Alternative → ℕ → Type 0
IsOf a b = (a.first ≤ b) × (b < a.behind)

-- the ways of a process say of an alternative what its block says
pub record IsOfWays (t : Shape) (a : Alternative) : Type 0 where
  -- it has a step, and its first step goes on from the steps before its choice
  pub some : a.first < a.behind
  pub begins : goes_on_to t a.before a.first ≡ true
  -- each of its steps is in a way that begins in it
  pub in_ways : (b : ℕ) → IsOf a b → (f : ℕ) × IsOf a f × (goes_on_to t a.before f ≡ true) × IsInWay t a.before f b

-- each alternative has its way, and its steps are those of ways that begin in it
abbrev pub AlternativesAreWays : Type 0
AlternativesAreWays = (root : Block) → tree_fault root ≡ None → Each (Each (IsOfWays (shape_of root))) (choices root)

-- where a refusal falls to the later of two neighbours, it is of a step of the earlier one
abbrev pub FallsFrom : Shape → Alternative → Alternative → Type 0
FallsFrom t a later = (w : List ℕ) (b : ℕ) → goes_on_to t w b ≡ true → fallback_of t w b ≡ Some later.first → IsOf a b

-- so it is of each two neighbours
abbrev pub FallInTurn : Shape → List Alternative → Type 0
FallInTurn t [] = Unit
FallInTurn t (a ∷ []) = Unit
FallInTurn t (a ∷ c ∷ alts) = FallsFrom t a c × FallInTurn t (c ∷ alts)

-- falling to an alternative comes from the one just before it
abbrev pub AlternativesFallInTurn : Type 0
AlternativesFallInTurn = (root : Block) → tree_fault root ≡ None → Each (FallInTurn (shape_of root)) (choices root)

-- the first steps of the alternatives of a choice other than the first
abbrev pub later_firsts : List Alternative → List ℕ
later_firsts [] = []
later_firsts (a ∷ alts) = map (λ c. c.first) alts

-- d begins an alternative other than the first at one of these choices
abbrev pub begins_later : ℕ → List (List Alternative) → Bool
begins_later d cs = list_any (λ alts. has d (later_firsts alts)) cs

-- a step that begins a later way begins an alternative other than a first one, and the other way round
abbrev pub LaterWaysAreLaterAlternatives : Type 0
LaterWaysAreLaterAlternatives =
    (root : Block) → tree_fault root ≡ None → (d : ℕ) →
    (is_later_way (shape_of root) d ≡ true → begins_later d (choices root) ≡ true)
    × (begins_later d (choices root) ≡ true → is_later_way (shape_of root) d ≡ true)
