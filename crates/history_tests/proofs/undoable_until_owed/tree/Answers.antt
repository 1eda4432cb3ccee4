use Rattle.std.proofs.Common.{◌≡◌, None, sym, ◌∙◌, ap, subst, length}
use Rattle.process_tree.specs.declared.block.Block.{Block}
use Rattle.process_tree.specs.Blocks.{outline}
use Rattle.process_tree.specs.Making.{tree_fault}
use Rattle.process_tree.specs.Shape.{shape_of}
use Rattle.process_tree.specs.Termination.{IsWellFormed}
use Rattle.history_tests.proofs.AroundAPivot.{three, steps_around}
use Rattle.history_tests.proofs.undoable_until_owed.tree.Goals as goal

pub returns-clause-good : goal.returns-clause-good
returns-clause-good g c =
    subst (λ (root : Block). IsWellFormed (shape_of root) × (tree_fault root ≡ None)) (sym c.in-Ok.ensures.tree)
    (steps_around c.steps-steps.result c.steps-steps.ensures, c.in-Ok.ensures.good)

pub returns-clause-count : goal.returns-clause-count
returns-clause-count g c = ap (λ (root : Block). length (outline root).steps) c.in-Ok.ensures.tree ∙ three c.steps-steps.result c.steps-steps.ensures
