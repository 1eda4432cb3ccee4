-- Of a good plan each step may be tried at least once, and so may its undo.
use Rattle.std.proofs.Common.{◌≡◌, ⊎_elim, ℕ, zero, suc, ◌+◌, Bool, true, false, eqb, leb, ltb, if◌then◌else◌, List, [], ◌∷◌, length, map, slice_index_or, Option, Some, None, sym, refl, ap, subst, ◌∙◌, arith}
use Rattle.std.proofs.lemmas.Option.{none-some}
use Rattle.std.proofs.lemmas.Bool.{and_parts, eqb-true, leb-true}
use Rattle.process_tree.specs.declared.step.Step.{Step}
use Rattle.process_tree.specs.declared.step.StepKind.{StepKind}
use Rattle.process_tree.specs.declared.step.StepKind.TheVariants.{C, P, R, Cr}
use Rattle.process_tree.specs.declared.block.Block.{Block}
use Rattle.process_tree.specs.declared.plan.Plan.{Plan}
use Rattle.process_tree.specs.Blocks.{outline}
use Rattle.process_tree.specs.Making.{are_refusals, are_tries, first_bad_step, first_same_name, has_good_options, is_amount, is_good_step, tree_fault}
use Rattle.process_tree.specs.Shape.{can_be_refused, kind_of}
use Rattle.schedule_model.specs.Course.{Allowance, Course, allowance_of, course, courses_of, usual}
use Rattle.schedule_model.specs.Laws.{AreGood}
use Rattle.schedule_model.proofs.GoodPlans.{plan_or_none}
use Rattle.machine_model.specs.declared.kept.Work.{Work}
use Rattle.machine_model.specs.declared.kept.Work.TheVariants.{Forward, Undo, End}
use Rattle.machine_model.specs.ProcessState.{allowance_in, are_used_up, tries_in}

-- a step may be tried at least once, and so may its undo
abbrev pub HasTries : Allowance → Type 0
HasTries a = (leb a.tries 0 ≡ false) × (leb a.undo_tries 0 ≡ false)

some_tries : (n : ℕ) → are_tries n ≡ true → leb n 0 ≡ false
some_tries n is = by_test (leb n 0) refl
  where
    by_test : (t : Bool) → leb n 0 ≡ t → leb n 0 ≡ false
    by_test false at = at
    by_test true at =
        let least = leb-true 1 n (and_parts (leb 1 n) (leb n 64) is).0 in
        let none = leb-true n 0 at in
        absurd (omega arith)

three_tries : (n : ℕ) → eqb n 3 ≡ true → leb n 0 ≡ false
three_tries n is = ap (λ k. leb k 0) (eqb-true n 3 is)

options_tries : (k : StepKind) (s : Step) → has_good_options k s ≡ true → HasTries (allowance_of s)
options_tries C s good =
    let x = and_parts _ (are_refusals s.undo_refuse) good in
    let y = and_parts _ (are_refusals s.refuse) x.0 in
    let z = and_parts (eqb s.tries 3) (are_tries s.undo_tries) y.0 in
    (three_tries s.tries z.0, some_tries s.undo_tries z.1)
options_tries P s good =
    let x = and_parts _ (eqb s.undo_refuse 0) good in
    let y = and_parts _ (are_refusals s.refuse) x.0 in
    let z = and_parts (eqb s.tries 3) (eqb s.undo_tries 3) y.0 in
    (three_tries s.tries z.0, three_tries s.undo_tries z.1)
options_tries R s good =
    let x = and_parts _ (eqb s.undo_refuse 0) good in
    let y = and_parts _ (are_refusals s.refuse) x.0 in
    let z = and_parts (are_tries s.tries) (eqb s.undo_tries 3) y.0 in
    (some_tries s.tries z.0, three_tries s.undo_tries z.1)
options_tries Cr s good =
    let x = and_parts _ (are_refusals s.undo_refuse) good in
    let y = and_parts _ (are_refusals s.refuse) x.0 in
    let z = and_parts (are_tries s.tries) (are_tries s.undo_tries) y.0 in
    (some_tries s.tries z.0, some_tries s.undo_tries z.1)

-- where no step is bad, the first is good, and none of the others is bad
pub good_head : (n : ℕ) (s : Step) (ss : List Step) → first_bad_step n (s ∷ ss) ≡ None → (is_good_step s ≡ true) × (first_bad_step (n + 1) ss ≡ None)
good_head n s ss none = by_test (is_good_step s) refl
  where
    by_test : (t : Bool) → is_good_step s ≡ t → (is_good_step s ≡ true) × (first_bad_step (n + 1) ss ≡ None)
    by_test true is = (is, sym (ap (λ t. if t then first_bad_step (n + 1) ss else Some n) is) ∙ none)
    by_test false is = absurd (none-some n (sym none ∙ ap (λ t. if t then first_bad_step (n + 1) ss else Some n) is))

steps_tries : (n : ℕ) (ss : List Step) (b : ℕ) → first_bad_step n ss ≡ None → HasTries (slice_index_or (map allowance_of ss) b usual)
steps_tries n [] b none = (refl, refl)
steps_tries n (s ∷ ss) zero none = options_tries s.kind s (and_parts (is_amount s.amount) (has_good_options s.kind s) (good_head n s ss none).0).1
steps_tries n (s ∷ ss) (suc b) none = steps_tries (n + 1) ss b (good_head n s ss none).1

-- a tree without fault has no bad step
pub no_bad_step : (root : Block) → tree_fault root ≡ None → first_bad_step 0 (outline root).steps ≡ None
no_bad_step root none = by_tests (outline root).has_empty (ltb 256 (length (outline root).steps)) (ltb 16 (outline root).nesting) (outline root).odd_choice (first_same_name 0 [] (outline root).steps) (first_bad_step 0 (outline root).steps) refl refl refl refl refl refl
  where
    by_tests : (e s n : Bool) (odd same bad : Option ℕ) → (outline root).has_empty ≡ e → ltb 256 (length (outline root).steps) ≡ s → ltb 16 (outline root).nesting ≡ n
        → (outline root).odd_choice ≡ odd → first_same_name 0 [] (outline root).steps ≡ same → first_bad_step 0 (outline root).steps ≡ bad → first_bad_step 0 (outline root).steps ≡ None
    by_tests true s n odd same bad ee es en eo ed eb = let told = rw ee at none in absurd (cc)
    by_tests false true n odd same bad ee es en eo ed eb = let told = rw (ee, es) at none in absurd (cc)
    by_tests false false true odd same bad ee es en eo ed eb = let told = rw (ee, es, en) at none in absurd (cc)
    by_tests false false false (Some k) same bad ee es en eo ed eb = let told = rw (ee, es, en, eo) at none in absurd (cc)
    by_tests false false false None (Some k) bad ee es en eo ed eb = let told = rw (ee, es, en, eo, ed) at none in absurd (cc)
    by_tests false false false None None (Some k) ee es en eo ed eb = let told = rw (ee, es, en, eo, ed, eb) at none in absurd (cc)
    by_tests false false false None None None ee es en eo ed eb = eb

pub course_tries : (plans : List Plan) → AreGood plans → (i b : ℕ) → HasTries (allowance_in (course (courses_of plans) i) b)
course_tries plans good i b =
    ⊎_elim
    (λ none. subst (λ c. HasTries (allowance_in c b)) (sym none) (refl, refl))
    (λ found. subst (λ c. HasTries (allowance_in c b)) (sym found.2) (steps_tries 0 (outline found.0.tree).steps b (no_bad_step found.0.tree (good found.0 found.1).tree)))
    (plan_or_none plans i)

-- nothing is used up that was never refused
pub left_at_first : (c : Course) → ((b : ℕ) → HasTries (allowance_in c b)) → (b : ℕ) (w : Work) → are_used_up (tries_in c b w) 0 ≡ false
left_at_first c tries b Forward = by_kind (can_be_refused (kind_of c.shape b))
  where
    by_kind : (t : Bool) → are_used_up (if t then None else Some (allowance_in c b).tries) 0 ≡ false
    by_kind true = refl
    by_kind false = (tries b).0
left_at_first c tries b Undo = (tries b).1
left_at_first c tries b End = refl
