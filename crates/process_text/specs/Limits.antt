-- What is read of a process keeps the limits of a tree.
use Rattle.std.specs.Prelude.{◌≡◌, ◌≤◌, ◌+◌, ℕ, List, ◌++◌, length, true, false, None}
use Rattle.std.specs.List.{list_any, list_all}
use Rattle.process_tree.specs.declared.step.Step.{Step}
use Rattle.process_tree.specs.Blocks.{Outline, all_steps, deepest, first_odd}
use Rattle.process_tree.specs.Making.{is_good_step}
use Rattle.process_text.specs.Grammar.{step_names, are_new}

-- these steps are within their limits, and their names differ from each other and from those before them; `after` are all
-- names then
pub record StepsFit (before : List (List ℕ)) (ss : List Step) (after : List (List ℕ)) : Type 0 where
  pub taken : after ≡ before ++ step_names ss
  pub new : are_new before (step_names ss) ≡ true
  pub few : length before ≤ 256 → length after ≤ 256
  pub good : list_all is_good_step ss ≡ true

-- so are the steps of a block, in which no block is empty, at most `left` choices are open at once, and each choice has 2 to 8
-- alternatives
pub record BlockFits (left : ℕ) (before : List (List ℕ)) (o : Outline) (after : List (List ℕ)) : Type 0 where
  pub steps : StepsFit before o.steps after
  pub full : o.has_empty ≡ false
  pub flat : o.nesting ≤ left
  pub even : o.odd_choice ≡ None

-- the same of alternatives of one choice
pub record AlternativesFit (left : ℕ) (before : List (List ℕ)) (os : List Outline) (after : List (List ℕ)) : Type 0 where
  pub steps : StepsFit before (all_steps os) after
  pub full : list_any (λ o. o.has_empty) os ≡ false
  pub flat : deepest os + 1 ≤ left
  pub even : first_odd os ≡ None
