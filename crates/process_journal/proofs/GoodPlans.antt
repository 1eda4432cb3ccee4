-- The plans of a journal are as each call asks, and those before stay with one more.
use Rattle.std.specs.Prelude.{IsTrue}
use Rattle.std.specs.List.{Contains, list_all}
use Rattle.std.proofs.Common.{◌≡◌, ◌<◌, ◌≤◌, ◌-◌, ltb, ℕ, zero, suc, true, List, [], ◌∷◌, ◌++◌, length, refl, sym, ap, ◌∙◌, subst, arith}
use Rattle.std.proofs.lemmas.Bool.{and_from, lt-ltb}
use Rattle.std.proofs.lemmas.List.{get_or_append_left, map-append, length-map}
use Rattle.process_tree.specs.Order.{Each}
use Rattle.process_tree.specs.Conflicts.{Table, operations_in}
use Rattle.process_tree.specs.declared.plan.Plan.{Plan}
use Rattle.schedule_model.specs.declared.event.Event.{Event}
use Rattle.schedule_model.specs.Course.{course, course_of, courses_of, no_course}
use Rattle.schedule_model.specs.Conflict.{ConflictRelation}
use Rattle.schedule_model.specs.Histories.{is_in, starts}
use Rattle.schedule_model.specs.Legal.{is_legal}
use Rattle.schedule_model.specs.Laws.{IsGoodPlan}
use Rattle.schedule_model.proofs.Prefixes.{legal-numbered}
use Rattle.history_judging.specs.Keeping.{ArePlans}
use Rattle.commute_table.specs.declared.catalog.Catalog.{Catalog}
use Rattle.commute_table.specs.Operations.{IsCatalog}
use Rattle.process_journal.specs.Plans.{IsPlanUnder}
use Rattle.process_journal.specs.Laws.{HistoriesArePlanned}

-- what each has, one of them has
pub each_contains : {A : Type 0} (P : A → Type 0) (xs : List A) (x : A) → Each P xs → Contains xs x → P x
each_contains P [] x all (k, within, is) = absurd (omega arith)
each_contains P (y ∷ xs) x all (zero, within, is) = subst P is all.0
each_contains P (y ∷ xs) x all (suc k, within, is) = each_contains P xs x all.1 (k, omega arith, is)

all_below : (n : ℕ) (xs : List ℕ) → Each (λ a. a < n) xs → list_all (λ a. ltb a n) xs ≡ true
all_below n [] below = refl
all_below n (x ∷ xs) below = and_from (ltb x n) (list_all (λ a. ltb a n) xs) (lt-ltb x n below.0) (all_below n xs below.1)

good_plan : (c : Catalog) (p : Plan) → IsPlanUnder c p → IsGoodPlan p
good_plan c p is = record { tree = is.own_text.reading.trees.0; well_formed = is.well_formed; operations = is.bound.count }

-- each plan of a journal is good, and its operations are those of the catalog
pub plans_are_good : (c : Catalog) (plans : List Plan) → IsCatalog c → Each (IsPlanUnder c) plans → ArePlans c.conflicts plans
plans_are_good c plans catalog each = record {
  good = λ p among. good_plan c p (each_contains (IsPlanUnder c) plans p each among);
  known = λ p among. all_below (operations_in c.conflicts) p.ops
      (subst (λ n. Each (λ a. a < n) p.ops) (sym catalog.of_all) (each_contains (IsPlanUnder c) plans p each among).bound.within);
}

-- with a plan more, the courses before are the same,
pub course_before : (plans : List Plan) (p : Plan) (i : ℕ) → 1 ≤ i → i ≤ length plans → course (courses_of plans) i ≡ course (courses_of (plans ++ p ∷ [])) i
course_before plans p i low high =
    let long = length-map plans course_of in
    sym (get_or_append_left (courses_of plans) (course_of p ∷ []) no_course (i - 1) (omega arith)) ∙ ap (λ cs. course cs i) (sym (map-append course_of plans (p ∷ [])))

-- which are those of all that started
pub course_started : (plans : List Plan) (p : Plan) (table : ConflictRelation) (h : List Event) → IsTrue (is_legal table (courses_of plans) h) → length (starts h) ≤ length plans
    → (i : ℕ) → IsTrue (is_in i (starts h)) → course (courses_of plans) i ≡ course (courses_of (plans ++ p ∷ [])) i
course_started plans p table h legal enough i started =
    let bounds = legal-numbered table (courses_of plans) h legal i started in
    let high = bounds.1 in
    course_before plans p i bounds.0 (omega arith)

-- no plans are good
pub no_plans : (table : Table) → ArePlans table []
no_plans table = record { good = λ p among. absurd (none p among); known = λ p among. absurd (none p among) }
  where
    none : (p : Plan) → Contains [] p → ⊥
    none p (k, within, is) = omega arith

-- so a journal's history is what each call asks
pub histories_are_planned : HistoriesArePlanned
histories_are_planned c h good =
    let plans = plans_are_good c h.plans good.catalog good.plans in
    record { good = plans.good; one_each = good.one_each; known = plans.known }
