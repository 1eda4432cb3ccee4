-- A compensatable step and a pivot can't get stuck.
use Rattle.std.proofs.Common.{◌≡◌, inl, List, [], ◌∷◌, length, map, sym, refl, ap, subst, arith}
use Rattle.process_tree.specs.declared.block.Tail.{End}
use Rattle.process_tree.specs.declared.step.Step.{Step}
use Rattle.process_tree.specs.declared.step.StepKind.{StepKind}
use Rattle.process_tree.specs.declared.step.StepKind.TheVariants.{C, P}
use Rattle.process_tree.specs.Blocks.{outline}
use Rattle.process_tree.specs.Shape.{shape_of}
use Rattle.process_tree.specs.Termination.{IsWellFormed}
use Rattle.schedule_model.specs.PlannedExample.{purchase_plan, sale_plan}
use Rattle.schedule_model.proofs.Members.{contains-from_among}
use Rattle.schedule_model.proofs.PlannedShop.{shop-is_planned}

two : IsWellFormed (record { kinds = C ∷ P ∷ []; paths = (0 ∷ 1 ∷ []) ∷ [] })
two = (shop-is_planned.good purchase_plan (contains-from_among purchase_plan (purchase_plan ∷ sale_plan ∷ []) (inl refl))).well_formed

-- steps of these kinds make that shape
pub two-steps : (steps : List Step) → map (λ (s : Step). s.kind) steps ≡ C ∷ P ∷ [] → IsWellFormed (shape_of (record { steps = steps; tail = End }))
two-steps [] is = let l = ap length is in absurd (omega arith)
two-steps (a ∷ []) is = let l = ap length is in absurd (omega arith)
two-steps (a ∷ b ∷ []) is = subst (λ (ks : List StepKind). IsWellFormed (record { kinds = ks; paths = (0 ∷ 1 ∷ []) ∷ [] })) (sym is) two
two-steps (a ∷ b ∷ d ∷ steps) is = let l = ap length is in absurd (omega arith)

pub two-count : (steps : List Step) → map (λ (s : Step). s.kind) steps ≡ C ∷ P ∷ [] → length (outline (record { steps = steps; tail = End })).steps ≡ 2
two-count [] is = let l = ap length is in absurd (omega arith)
two-count (a ∷ []) is = let l = ap length is in absurd (omega arith)
two-count (a ∷ b ∷ []) is = refl
two-count (a ∷ b ∷ d ∷ steps) is = let l = ap length is in absurd (omega arith)
