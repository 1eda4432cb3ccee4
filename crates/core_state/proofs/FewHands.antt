-- No core hands out more pieces than can be numbered.
use Rattle.std.proofs.Common.{◌≡◌, ⊎_elim, ℕ, zero, suc, ◌+◌, ◌*◌, ◌≤◌, ◌<◌, true, List, [], ◌∷◌, length, map, slice_index_or, None, sym, refl, ap, subst, arith}
use Rattle.std.specs.List.{sum_by}
use Rattle.std.proofs.lemmas.Bool.{and_parts, eqb-true, leb-true}
use Rattle.std.proofs.Math.Nat.{suc-mul}
use Rattle.std.proofs.lemmas.List.Sums.{sum_by-cons}
use Rattle.process_tree.specs.declared.step.Step.{Step}
use Rattle.process_tree.specs.declared.step.StepKind.{StepKind}
use Rattle.process_tree.specs.declared.step.StepKind.TheVariants.{C, P, R, Cr}
use Rattle.process_tree.specs.declared.plan.Plan.{Plan}
use Rattle.process_tree.specs.Blocks.{numbers_from, outline}
use Rattle.process_tree.specs.Making.{are_refusals, are_tries, first_bad_step, has_good_options, is_amount}
use Rattle.process_tree.specs.Shape.{kind_of}
use Rattle.process_tree.proofs.Trees.{few_steps}
use Rattle.schedule_model.specs.Course.{Allowance, Course, allowance, allowance_of, course, courses_of, shape, usual}
use Rattle.schedule_model.specs.Histories.{starts}
use Rattle.schedule_model.specs.Laws.{AreGood}
use Rattle.schedule_model.proofs.GoodPlans.{plan_or_none}
use Rattle.machine_model.specs.Laws.{pieces_for, pieces_for_step}
use Rattle.machine_model.specs.Pieces.{hands}
use Rattle.machine_model.proofs.Allowances.{good_head, no_bad_step}
use Rattle.machine_model.proofs.HandsSum.{bound_on_hands}
use Rattle.machine_model.proofs.RunsWithin.{runs_are_legal}
use Rattle.core_state.specs.Cores.{CoreState, IsCore, courses_in, history_of, machine_of, relation}
use Rattle.core_state.proofs.SeatFacts.{length-numbers}
use Rattle.core_state.proofs.StartedProcesses.{few_start}

-- a step may be tried at most 64 times, and so may its undo
abbrev HasFewTries : Allowance → Type 0
HasFewTries a = (a.tries ≤ 64) × (a.undo_tries ≤ 64)

few_options : (k : StepKind) (s : Step) → has_good_options k s ≡ true → HasFewTries (allowance_of s)
few_options C s good =
    let x = and_parts _ (are_refusals s.undo_refuse) good in
    let y = and_parts _ (are_refusals s.refuse) x.0 in
    let z = and_parts _ (are_tries s.undo_tries) y.0 in
    let a = eqb-true s.tries 3 z.0 in
    let b = leb-true s.undo_tries 64 (and_parts _ _ z.1).1 in
    (omega arith, omega arith)
few_options P s good =
    let x = and_parts _ _ good in
    let y = and_parts _ (are_refusals s.refuse) x.0 in
    let z = and_parts _ _ y.0 in
    let a = eqb-true s.tries 3 z.0 in
    let b = eqb-true s.undo_tries 3 z.1 in
    (omega arith, omega arith)
few_options R s good =
    let x = and_parts _ _ good in
    let y = and_parts _ (are_refusals s.refuse) x.0 in
    let z = and_parts (are_tries s.tries) _ y.0 in
    let a = leb-true s.tries 64 (and_parts _ _ z.0).1 in
    let b = eqb-true s.undo_tries 3 z.1 in
    (omega arith, omega arith)
few_options Cr s good =
    let x = and_parts _ (are_refusals s.undo_refuse) good in
    let y = and_parts _ (are_refusals s.refuse) x.0 in
    let z = and_parts (are_tries s.tries) (are_tries s.undo_tries) y.0 in
    let a = leb-true s.tries 64 (and_parts _ _ z.0).1 in
    let b = leb-true s.undo_tries 64 (and_parts _ _ z.1).1 in
    (omega arith, omega arith)

few_of_steps : (n : ℕ) (ss : List Step) (b : ℕ) → first_bad_step n ss ≡ None → HasFewTries (slice_index_or (map allowance_of ss) b usual)
few_of_steps n [] b none = (omega arith, omega arith)
few_of_steps n (s ∷ ss) zero none = few_options s.kind s (and_parts (is_amount s.amount) (has_good_options s.kind s) (good_head n s ss none).0).1
few_of_steps n (s ∷ ss) (suc b) none = few_of_steps (n + 1) ss b (good_head n s ss none).1

pub sums_within : {X : Type 0} (f : X → ℕ) (most : ℕ) (xs : List X) → ((x : X) → f x ≤ most) → sum_by f xs ≤ length xs * most
sums_within f most [] each = omega arith
sums_within f most (x ∷ xs) each =
    let here = each x in
    let rest = sums_within f most xs each in
    let sum = sum_by-cons f x xs in
    let more : length (x ∷ xs) * most ≡ length xs * most + most = suc-mul (length xs) most in
    omega arith

module _ (plans : List Plan) (good : AreGood plans) (i : ℕ) where
  few_tries : (b : ℕ) → HasFewTries (allowance (courses_of plans) i b)
  few_tries b =
      ⊎_elim
      (λ none. subst (λ (c : Course). HasFewTries (slice_index_or c.allowances b usual)) (sym none) (omega arith, omega arith))
      (λ found. subst (λ (c : Course). HasFewTries (slice_index_or c.allowances b usual)) (sym found.2) (few_of_steps 0 (outline found.0.tree).steps b (no_bad_step found.0.tree (good found.0 found.1).tree)))
      (plan_or_none plans i)

  few_for_step : (b : ℕ) → pieces_for_step (courses_of plans) i b ≤ 128
  few_for_step b = by_kind (kind_of (shape (courses_of plans) i) b) refl
    where
      by_kind : (k : StepKind) → kind_of (shape (courses_of plans) i) b ≡ k → pieces_for_step (courses_of plans) i b ≤ 128
      by_kind C is =
          let room : pieces_for_step (courses_of plans) i b ≡ 1 + (allowance (courses_of plans) i b).undo_tries = rw is refl in
          let few = (few_tries b).1 in
          omega arith
      by_kind P is =
          let room : pieces_for_step (courses_of plans) i b ≡ 1 = rw is refl in
          omega arith
      by_kind R is =
          let room : pieces_for_step (courses_of plans) i b ≡ (allowance (courses_of plans) i b).tries = rw is refl in
          let few = (few_tries b).0 in
          omega arith
      by_kind Cr is =
          let room : pieces_for_step (courses_of plans) i b ≡ (allowance (courses_of plans) i b).tries + (allowance (courses_of plans) i b).undo_tries = rw is refl in
          let few = (few_tries b).0 in
          let undo = (few_tries b).1 in
          omega arith

  few_operations : length (course (courses_of plans) i).ops ≤ 256
  few_operations =
      ⊎_elim
      (λ none. let same = ap (λ (c : Course). length c.ops) none in omega arith)
      (λ found.
      let same = ap (λ (c : Course). length c.ops) found.2 in
      let many = (good found.0 found.1).operations in
      let few = few_steps found.0.tree (good found.0 found.1).tree in
      omega arith)
      (plan_or_none plans i)

  pub few_for : pieces_for (courses_of plans) i ≤ 32770
  few_for =
      let n = length (course (courses_of plans) i).ops in
      let sum = sums_within (pieces_for_step (courses_of plans) i) 128 (numbers_from 0 n) few_for_step in
      let many = length-numbers 0 n in
      let few = few_operations in
      omega arith

pub hands_few : (c : CoreState) → IsCore c → length (hands c.kept) < 4294967295
hands_few c core =
    let most = bound_on_hands (relation c) c.plans (machine_of c) core.session in
    let sum = sums_within (pieces_for (courses_in c)) 32770 (starts (history_of c)) (few_for c.plans core.session.good) in
    let few = few_start (courses_in c) (history_of c) (runs_are_legal (relation c) c.plans (machine_of c) core.session).1 in
    omega arith
