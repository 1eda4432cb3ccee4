-- Over copies of plans the same is told of the values.
use Rattle.std.proofs.Common.{◌≡◌, ◌∙◌, List, [], ◌∷◌, refl, ap}
use Rattle.process_tree.specs.Blocks.{Outline, outline}
use Rattle.process_tree.specs.declared.plan.Plan.{Plan}
use Rattle.serial_values.proofs.SamePlans.{steps_in}
use Rattle.audit_text.specs.Copies.{AreCopies}

-- they have the same steps
pub same_steps : (ps qs : List Plan) → AreCopies ps qs → steps_in ps ≡ steps_in qs
same_steps [] [] equal = refl
same_steps [] (q ∷ qs) equal = absurd equal
same_steps (p ∷ ps) [] equal = absurd equal
same_steps (p ∷ ps) (q ∷ qs) equal =
    ap (λ (o : Outline). o.steps ∷ steps_in ps) equal.0.says ∙ ap (λ later. (outline q.tree).steps ∷ later) (same_steps ps qs equal.1)
