-- The plan of a process of a core.
use Rattle.std.proofs.Common.{◌≡◌, ℕ, ◌+◌, ◌-◌, ◌≤◌, ◌<◌, true, List, length, slice_index_or, sym, ap, subst, ◌∙◌, arith}
use Rattle.std.specs.List.{Contains}
use Rattle.std.proofs.lemmas.List.{length-map}
use Rattle.process_tree.specs.declared.plan.Plan.{Plan}
use Rattle.process_tree.specs.declared.step.Step.{Step}
use Rattle.process_tree.specs.Blocks.{outline}
use Rattle.process_tree.specs.Conflicts.{operations_in}
use Rattle.process_tree.specs.Order.{Each}
use Rattle.schedule_model.specs.Course.{Course, course, course_of, shape}
use Rattle.schedule_model.specs.Histories.{is_in, starts}
use Rattle.schedule_model.specs.Laws.{IsGoodPlan}
use Rattle.schedule_model.proofs.Members.{contains-from_among}
use Rattle.core_state.specs.Cores.{CoreState, IsCore, courses_in, moment_of}
use Rattle.core_state.proofs.MayStand.{among_at}
use Rattle.core_state.proofs.SeatFacts.{has_plan}
use Rattle.core_state.proofs.StartedProcesses.{course_at}

-- process i is of this plan
pub record OwnPlan (v : CoreState) (i : ℕ) (p : Plan) : Type 0 where
  pub low : 1 ≤ i
  pub high : i ≤ length v.plans
  pub course' : course (courses_in v) i ≡ course_of p
  pub good : IsGoodPlan p
  pub known : Each (λ op. op < operations_in v.conflicts) p.ops

module _ (v : CoreState) (core : IsCore v) (i : ℕ) (started : is_in i (starts (moment_of v).events) ≡ true) where
  at_place : (d : Plan) → OwnPlan v i (slice_index_or v.plans (i - 1) d)
  at_place d =
      let bounds = has_plan v core i started in
      let low = bounds.0 in
      let high = bounds.1 in
      let p = slice_index_or v.plans (i - 1) d in
      let back : i - 1 + 1 ≡ i = omega arith in
      let contained : Contains v.plans p = contains-from_among p v.plans (among_at v.plans (i - 1) d (omega arith)) in
      record {
        low = low;
        high = high;
        course' = ap (course (courses_in v)) (sym back) ∙ course_at v.plans (i - 1) d (omega arith);
        good = core.session.good p contained;
        known = core.known p contained;
      }

  -- the plan at its place is
  pub own_plan : (ps : List Plan) → ps ≡ v.plans → (p : Plan) → p ≡ slice_index_or ps (i - 1) p → OwnPlan v i p
  own_plan ps same p is = subst (OwnPlan v i) (sym (is ∙ ap (λ qs. slice_index_or qs (i - 1) p) same)) (at_place p)

-- it has as many steps
pub own_steps : (v : CoreState) (i : ℕ) (p : Plan) → OwnPlan v i p → length (shape (courses_in v) i).kinds ≡ length (outline p.tree).steps
own_steps v i p own = ap (λ (c : Course). length c.shape.kinds) own.course' ∙ length-map (outline p.tree).steps (λ (s : Step). s.kind)
