-- Sums over numbers.
use Rattle.std.proofs.Common.{◌≡◌, ⊎_elim, ℕ, zero, suc, ◌+◌, ◌≤◌, ◌<◌, Bool, true, false, cond, eqb, ◌||◌, List, [], ◌∷◌, refl, ap, arith}
use Rattle.std.specs.List.{sum_by}
use Rattle.std.proofs.lemmas.List.Sums.{sum_by-cons}
use Rattle.std.proofs.lemmas.Bool.{cases_eq, eq-eqb, eqb-true, ne_eqb, or_right, false≢true}
use Rattle.process_tree.specs.Blocks.{numbers_from}
use Rattle.schedule_model.specs.Histories.{is_in}

pub none : (t : Bool) → cond {A = ℕ} t 0 0 ≡ 0
none true = refl
none false = refl

pub cond_most : (t : Bool) (x : ℕ) → cond {A = ℕ} t x 0 ≤ x
cond_most true x = omega arith
cond_most false x = omega arith

pub one_most : (t : Bool) → cond {A = ℕ} t 1 0 ≤ 1
one_most true = omega arith
one_most false = omega arith

-- sums
pub sum-add : (f g : ℕ → ℕ) (is : List ℕ) → sum_by (λ i. f i + g i) is ≡ sum_by f is + sum_by g is
sum-add f g [] = refl
sum-add f g (i ∷ is) =
    let a = sum_by-cons (λ j. f j + g j) i is in let b = sum_by-cons f i is in let c = sum_by-cons g i is in let rest = sum-add f g is in omega arith

pub sum-most : (f g : ℕ → ℕ) (is : List ℕ) → ((i : ℕ) → is_in i is ≡ true → f i ≤ g i) → sum_by f is ≤ sum_by g is
sum-most f g [] less = omega arith
sum-most f g (i ∷ is) less =
    let a = sum_by-cons f i is in let b = sum_by-cons g i is in
    let first = less i (ap (λ t. t || is_in i is) (eq-eqb i i refl)) in
    let rest = sum-most f g is (λ j among. less j (or_right (eqb j i) (is_in j is) among)) in
    omega arith

pub sum-zero : (f : ℕ → ℕ) (is : List ℕ) → ((i : ℕ) → f i ≡ 0) → sum_by f is ≡ 0
sum-zero f [] none = refl
sum-zero f (i ∷ is) none = let a = sum_by-cons f i is in let z = none i in let rest = sum-zero f is none in omega arith

-- a sum has each of its parts
pub sum-has : (f : ℕ → ℕ) (j : ℕ) (is : List ℕ) → is_in j is ≡ true → f j ≤ sum_by f is
sum-has f j [] among = absurd (false≢true among)
sum-has f j (i ∷ is) among = by_first (eqb j i) refl among (sum-has f j is)
  where
    by_first : (t : Bool) → eqb j i ≡ t → (t || is_in j is) ≡ true → (is_in j is ≡ true → f j ≤ sum_by f is) → f j ≤ sum_by f (i ∷ is)
    by_first true is' among' later = let a = sum_by-cons f i is in let same = ap f (eqb-true j i is') in omega arith
    by_first false is' among' later = let a = sum_by-cons f i is in let rest = later among' in omega arith

-- of the numbers of which each is one, one is a given number at most
ones_above : (s n k : ℕ) → s < n → sum_by (λ b. cond {A = ℕ} (eqb s b) 1 0) (numbers_from n k) ≡ 0
ones_above s n zero less = refl
ones_above s n (suc k) less =
    let a = sum_by-cons (λ b. cond {A = ℕ} (eqb s b) 1 0) n (numbers_from (n + 1) k) in
    let z : cond {A = ℕ} (eqb s n) 1 0 ≡ 0 = ap (λ t. cond t 1 0) (ne_eqb s n (λ same. omega arith)) in
    let rest = ones_above s (n + 1) k (omega arith) in
    omega arith

pub ones : (s n k : ℕ) → sum_by (λ b. cond {A = ℕ} (eqb s b) 1 0) (numbers_from n k) ≤ 1
ones s n zero = omega arith
ones s n (suc k) =
    let a = sum_by-cons (λ b. cond {A = ℕ} (eqb s b) 1 0) n (numbers_from (n + 1) k) in
    ⊎_elim
    (λ (same : s ≡ n).
    let z : cond {A = ℕ} (eqb s n) 1 0 ≡ 1 = ap (λ t. cond t 1 0) (eq-eqb s n same) in
    let rest = ones_above s (n + 1) k (omega arith) in omega arith)
    (λ (other : s ≡ n → ⊥).
    let z : cond {A = ℕ} (eqb s n) 1 0 ≡ 0 = ap (λ t. cond t 1 0) (ne_eqb s n other) in
    let rest = ones s (n + 1) k in omega arith)
    (cases_eq s n)

pub numbers_in : (s n k : ℕ) → n ≤ s → s < n + k → is_in s (numbers_from n k) ≡ true
numbers_in s n zero from to = absurd (omega arith)
numbers_in s n (suc k) from to = ⊎_elim
    (λ same. ap (λ t. t || is_in s (numbers_from (n + 1) k)) (eq-eqb s n same))
    (λ other. or_right (eqb s n) (is_in s (numbers_from (n + 1) k)) (numbers_in s (n + 1) k (omega arith) (omega arith)))
    (cases_eq s n)
