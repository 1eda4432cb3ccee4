-- A process that goes on has a good plan, so its shape is that of a tree, and well-formed.
use Rattle.std.proofs.Common.{◌≡◌, ◌⊎◌, inl, inr, ⊎_elim, ℕ, zero, suc, ◌-◌, true, false, List, [], ◌∷◌, length, map, sym, refl, ap, ◌∙◌, subst}
use Rattle.std.specs.Prelude.{slice_index_or}
use Rattle.std.specs.List.{Contains}
use Rattle.std.proofs.lemmas.Bool.{false≢true}
use Rattle.std.proofs.lemmas.List.{length-map}
use Rattle.process_tree.specs.declared.plan.Plan.{Plan}
use Rattle.process_tree.specs.declared.step.Step.{Step}
use Rattle.process_tree.specs.Blocks.{outline}
use Rattle.process_tree.specs.Shape.{goes_on_to}
use Rattle.process_tree.specs.Termination.{IsWellFormed}
use Rattle.process_tree.specs.Laws.{IsTreeShape}
use Rattle.schedule_model.specs.Course.{Course, course, course_of, courses_of, no_course, shape}
use Rattle.schedule_model.specs.Laws.{IsGoodPlan, AreGood}
use Rattle.schedule_model.proofs.Members.{Among, contains-from_among}

-- a place of the courses has that of a plan, or there is none
at_place : (plans : List Plan) (k : ℕ) → (slice_index_or (map course_of plans) k no_course ≡ no_course)
    ⊎ ((p : Plan) × Among p plans × (slice_index_or (map course_of plans) k no_course ≡ course_of p))
at_place [] k = inl refl
at_place (p ∷ plans) zero = inr (p, inl refl, refl)
at_place (p ∷ plans) (suc k) = ⊎_elim (λ none. inl none) (λ found. inr (found.0, inr found.1, found.2)) (at_place plans k)

pub plan_or_none : (plans : List Plan) (i : ℕ) → (course (courses_of plans) i ≡ no_course)
    ⊎ ((p : Plan) × Contains plans p × (course (courses_of plans) i ≡ course_of p))
plan_or_none plans i = ⊎_elim (λ none. inl none) (λ found. inr (found.0, contains-from_among found.0 plans found.1, found.2)) (at_place plans (i - 1))

-- what is known of a process that has a good plan
pub record HasGoodPlan (courses : List Course) (i : ℕ) : Type 0 where
  pub tree : IsTreeShape (shape courses i)
  pub well_formed : IsWellFormed (shape courses i)
  pub operations : length (course courses i).ops ≡ length (shape courses i).kinds

pub of_plan : (courses : List Course) (i : ℕ) (p : Plan) → IsGoodPlan p → course courses i ≡ course_of p → HasGoodPlan courses i
of_plan courses i p good is = record {
  tree = record { root = p.tree; good = good.tree; is = ap (λ (c : Course). c.shape) is };
  well_formed = subst IsWellFormed (sym (ap (λ (c : Course). c.shape) is)) good.well_formed;
  operations =
      ap (λ (c : Course). length c.ops) is ∙ (good.operations ∙ (sym (length-map (outline p.tree).steps (λ (s : Step). s.kind))
      ∙ ap (λ (c : Course). length c.shape.kinds) (sym is)));
}

-- no step goes on without a course
goes_nowhere : (courses : List Course) (i : ℕ) (w : List ℕ) (b : ℕ) → course courses i ≡ no_course → goes_on_to (shape courses i) w b ≡ false
goes_nowhere courses i w b none = ap (λ (c : Course). goes_on_to c.shape w b) none

-- where a step goes on, there is a good plan
pub good_if_goes_on : (plans : List Plan) (i : ℕ) (w : List ℕ) (b : ℕ) → AreGood plans → goes_on_to (shape (courses_of plans) i) w b ≡ true → HasGoodPlan (courses_of plans) i
good_if_goes_on plans i w b good on =
    ⊎_elim
    (λ none. absurd (false≢true (sym (goes_nowhere (courses_of plans) i w b none) ∙ on)))
    (λ found. of_plan (courses_of plans) i found.0 (good found.0 found.1) found.2)
    (plan_or_none plans i)
