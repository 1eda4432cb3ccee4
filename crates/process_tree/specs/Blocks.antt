-- What a block says: its steps and its whole paths, and what its making tests.
use Rattle.std.specs.Prelude.{ℕ, zero, suc, ◌+◌, max, Bool, ◌||◌, List, [], ◌∷◌, ◌++◌, length, map, flat_map, nat_lt, if◌then◌else◌}
use Rattle.std.specs.Prelude.{Option, Some, None}
use Rattle.std.specs.List.{list_any}
use Rattle.process_tree.specs.declared.step.Step.{Step}
use Rattle.process_tree.specs.declared.block.Block.{Block}
use Rattle.process_tree.specs.declared.block.Tail.{Tail, End, Choice', Row_of-Block, end_of-Block, more_of-Block}

-- n, n + 1, .. , as many as k
abbrev pub numbers_from : ℕ → ℕ → List ℕ
numbers_from n zero = []
numbers_from n (suc k) = n ∷ numbers_from (n + 1) k

-- What a block says.
pub record Outline : Type 0 where
  -- its steps in text order
  pub steps : List Step
  -- its whole paths in text order, as step numbers counted from its first step
  pub paths : List (List ℕ)
  -- how many choices are open at once
  pub nesting : ℕ
  -- a block of it has neither a step nor a choice
  pub has_empty : Bool
  -- of the first choice in text order that has fewer than 2 or more than 8, how many alternatives it has
  pub odd_choice : Option ℕ

-- the steps of each, one after another
abbrev pub all_steps : List Outline → List Step
all_steps os = flat_map (λ o. o.steps) os

-- own, and then each path of each alternative, of which the first step has number n
abbrev pub all_paths : List ℕ → ℕ → List Outline → List (List ℕ)
all_paths own n [] = []
all_paths own n (o ∷ os) = map (λ p. own ++ map (λ k. n + k) p) o.paths ++ all_paths own (n + length o.steps) os

-- the greatest nesting
abbrev pub deepest : List Outline → ℕ
deepest [] = 0
deepest (o ∷ os) = max o.nesting (deepest os)

-- the first that is there
abbrev pub first_odd : List Outline → Option ℕ
first_odd [] = None
first_odd (o ∷ os) = either o.odd_choice (first_odd os)
  where
    either : Option ℕ → Option ℕ → Option ℕ
    either None later = later
    either (Some n) later = Some n

-- steps, and then nothing
abbrev pub outline_at_end : List Step → Outline
outline_at_end steps = record {
  steps = steps;
  paths = numbers_from 0 (length steps) ∷ [];
  nesting = 0;
  has_empty = nat_lt (length steps) 1;
  odd_choice = None;
}

-- steps, and then a choice between these
abbrev pub outline_at_choice : List Step → List Outline → Outline
outline_at_choice steps os = record {
  steps = steps ++ all_steps os;
  paths = all_paths (numbers_from 0 (length steps)) (length steps) os;
  nesting = deepest os + 1;
  has_empty = list_any (λ o. o.has_empty) os;
  odd_choice = if nat_lt (length os) 2 || nat_lt 8 (length os) then Some (length os) else first_odd os;
}

abbrev mutual
  -- of steps and what follows them
  pub outline_of : List Step → Tail → Outline
  outline_of steps End = outline_at_end steps
  outline_of steps (Choice' shape blocks) = outline_at_choice steps (outlines_of blocks)

  -- of each of these blocks
  pub outlines_of : {m : _} → Row_of-Block m → List Outline
  outlines_of end_of-Block = []
  outlines_of (more_of-Block steps tail rest) = outline_of steps tail ∷ outlines_of rest

abbrev pub outline : Block → Outline
outline b = outline_of b.steps b.tail
