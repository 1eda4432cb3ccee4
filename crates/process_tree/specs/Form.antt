-- What a block is, wherever it lies in memory: equal forms are what it means that two blocks, or two plans, are equal.
use Rattle.std.specs.Prelude.{◌≡◌, List, [], ◌∷◌}
use Rattle.process_tree.specs.declared.step.Step.{Step}
use Rattle.process_tree.specs.declared.block.Block.{Block}
use Rattle.process_tree.specs.declared.block.Tail.{Tail, End, Choice', Row_of-Block, end_of-Block, more_of-Block}
use Rattle.process_tree.specs.declared.plan.Plan.{Plan}
use Rattle.process_tree.specs.Blocks.{Outline, outline_at_end, outline_at_choice, outline}

mutual
  -- steps, and then an end or a choice
  pub data Form : Type 0 where
    ending : List Step → Form
    choosing : List Step → Forms → Form

  pub data Forms : Type 0 where
    no_forms : Forms
    more_forms : Form → Forms → Forms

abbrev mutual
  -- of steps and what follows them
  pub form_at : List Step → Tail → Form
  form_at steps End = ending steps
  form_at steps (Choice' shape blocks) = choosing steps (forms_at blocks)

  -- of each of these blocks
  pub forms_at : {m : _} → Row_of-Block m → Forms
  forms_at end_of-Block = no_forms
  forms_at (more_of-Block steps tail rest) = more_forms (form_at steps tail) (forms_at rest)

-- the form of a block
abbrev pub form_of : Block → Form
form_of b = form_at b.steps b.tail

-- these forms, one after another
abbrev pub forms_from : List Form → Forms
forms_from [] = no_forms
forms_from (f ∷ fs) = more_forms f (forms_from fs)

-- what a block of this form says
abbrev mutual
  pub outline_by : Form → Outline
  outline_by (ending steps) = outline_at_end steps
  outline_by (choosing steps fs) = outline_at_choice steps (outlines_by fs)

  pub outlines_by : Forms → List Outline
  outlines_by no_forms = []
  outlines_by (more_forms f fs) = outline_by f ∷ outlines_by fs

-- two plans are equal: their names, their trees and their operations are; so their trees say the same
pub record AreEqualPlans (p q : Plan) : Type 0 where
  pub name : p.name ≡ q.name
  pub tree : form_of p.tree ≡ form_of q.tree
  pub says : outline p.tree ≡ outline q.tree
  pub ops : p.ops ≡ q.ops
