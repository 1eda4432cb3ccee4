-- The class of a step, as it is found out.
use Rattle.std.proofs.Common.{◌≡◌, ◌⊎◌, inl, inr, ℕ, suc, zero, Bool, true, false, if◌then◌else◌, List, [], ◌∷◌, map, Some, ap, ◌∙◌}
use Rattle.std.specs.Prelude.{slice_get, slice_index_or}
use Rattle.process_tree.specs.declared.plan.Plan.{Plan}
use Rattle.process_tree.specs.declared.step.Step.{Step}
use Rattle.process_tree.specs.declared.step.StepKind.{StepKind}
use Rattle.process_tree.specs.declared.step.StepKind.TheVariants.{C, P, R, Cr}
use Rattle.process_tree.specs.Blocks.{outline}
use Rattle.process_tree.specs.Recovery.{StepClass, class_by_kind, committing, reserved, undoable}
use Rattle.process_tree.specs.Shape.{kind_of, shape_of}
use Rattle.schedule_model.specs.Histories.{is_in}
use Rattle.hold_tables.specs.Tables.{Tables}
use Rattle.admission.specs.Admission.{class_in_tables, reserved_steps}

-- by whether it is reserved
abbrev pub by_reserved : Plan → ℕ → Bool → StepClass
by_reserved plan b t = if t then reserved else class_by_kind (kind_of (shape_of plan.tree) b)

pub class-reserved : (t : Tables) (plan : Plan) (i b : ℕ) → is_in b (reserved_steps t i) ≡ true → class_in_tables t plan i b ≡ reserved
class-reserved t plan i b is = ap (by_reserved plan b) is

kind_at : (steps : List Step) (b : ℕ) (s : Step) → slice_get steps b ≡ Some s → slice_index_or (map (λ s. s.kind) steps) b C ≡ s.kind
kind_at [] b s is = absurd cc
kind_at (x ∷ steps) zero s is = let same : x ≡ s = cc in ap (λ s. s.kind) same
kind_at (x ∷ steps) (suc b) s is = kind_at steps b s is

-- else its kind tells it
pub class-kind : (t : Tables) (plan : Plan) (i b : ℕ) (s : Step) → is_in b (reserved_steps t i) ≡ false → slice_get (outline plan.tree).steps b ≡ Some s
    → class_in_tables t plan i b ≡ class_by_kind s.kind
class-kind t plan i b s other is = ap (by_reserved plan b) other ∙ ap class_by_kind (kind_at (outline plan.tree).steps b s is)

pub stays : (k : StepKind) → (k ≡ C) ⊎ (k ≡ Cr) → class_by_kind k ≡ undoable
stays k (inl is) = ap class_by_kind is
stays k (inr is) = ap class_by_kind is

pub commits : (k : StepKind) → (k ≡ P) ⊎ (k ≡ R) → class_by_kind k ≡ committing
commits k (inl is) = ap class_by_kind is
commits k (inr is) = ap class_by_kind is
