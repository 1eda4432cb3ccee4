-- A list of processes, one after another.
use Rattle.std.proofs.Common.{◌≡◌, ℕ, zero, suc, ◌+◌, ◌≤◌, length, get_or, List, [], ◌∷◌, ◌++◌, take, drop, append_assoc, sym, ap, ap₂, ◌∙◌, arith}
use Rattle.process_tree.specs.declared.plan.Plan.{Plan}
use Rattle.commute_table.specs.declared.op.Op.{Op}
use Rattle.scenario_warnings.specs.declared.warning.Warning.{Warning}
use Rattle.scenario_warnings.specs.Warnings.{of_plan, of_plans}

-- where a list goes on with x behind n others
taken : {A : Type 0} (n : ℕ) (xs : List A) (x : A) (ys : List A) → drop n xs ≡ x ∷ ys → take (suc n) xs ≡ take n xs ++ x ∷ []
taken zero [] x ys is = absurd (let none : [] ≡ x ∷ ys = is in cc)
taken zero (z ∷ zs) x ys is = let same : z ≡ x = (let whole : z ∷ zs ≡ x ∷ ys = is in cc) in ap (λ y. y ∷ []) same
taken (suc n) [] x ys is = absurd (let none : [] ≡ x ∷ ys = is in cc)
taken (suc n) (z ∷ zs) x ys is = ap (λ us. z ∷ us) (taken n zs x ys is)

dropped : {A : Type 0} (n : ℕ) (xs : List A) (x : A) (ys : List A) → drop n xs ≡ x ∷ ys → drop (suc n) xs ≡ ys
dropped zero [] x ys is = absurd (let none : [] ≡ x ∷ ys = is in cc)
dropped zero (z ∷ zs) x ys is = let whole : z ∷ zs ≡ x ∷ ys = is in cc
dropped (suc n) [] x ys is = absurd (let none : [] ≡ x ∷ ys = is in cc)
dropped (suc n) (z ∷ zs) x ys is = dropped n zs x ys is

-- the warnings of the next process are added
pub next_plan : (ops : List Op) (plans : List Plan) (n : ℕ) (p : Plan) (ps : List Plan) (out next : List Warning) → drop n plans ≡ p ∷ ps
    → next ≡ out ++ of_plan ops (take n plans) p
    → next ++ of_plans ops (take (n + 1) plans) (drop (n + 1) plans) ≡ out ++ of_plans ops (take n plans) (drop n plans)
next_plan ops plans n p ps out next is added =
    ap₂ (λ (xs : List Warning) (ys : List Warning). xs ++ ys) added
    (ap (λ m. of_plans ops (take m plans) (drop m plans)) (let same : n + 1 ≡ suc n = omega arith in same)
    ∙ ap₂ (λ (us vs : List Plan). of_plans ops us vs) (taken n plans p ps is) (dropped n plans p ps is))
    ∙ (append_assoc out (of_plan ops (take n plans) p) (of_plans ops (take n plans ++ p ∷ []) ps)
    ∙ ap (λ vs. out ++ of_plans ops (take n plans) vs) (sym is))

-- the first of a list that has one
pub first_of : (rest : List Plan) (p : Plan) → 1 ≤ length rest → p ≡ get_or rest 0 p → (ps : List Plan) × (rest ≡ p ∷ ps)
first_of [] p some is = absurd (omega arith)
first_of (q ∷ qs) p some is = (qs, ap (λ x. x ∷ qs) (sym is))
