-- A step determines the branch to it.
use Rattle.std.proofs.Math.Bool.{or-true}
use Rattle.std.proofs.lemmas.Bool.{eq-eqb, ne_eqb, cases_eq, cases_Bool}
use Rattle.std.proofs.Common.{◌≡◌, ◌⊎◌, inl, inr, ⊎_elim, subst, ℕ, ◌<◌, true, false, ◌||◌, List, [], ◌∷◌, refl, sym, ap, ◌∙◌, arith, nat_eq, if◌then◌else◌}
use Rattle.process_tree.specs.Order.{Each, IsRising, PartsBelow, AreInOrder, has}
use Rattle.process_tree.specs.Shape.{Shape, path_through, steps_before, branch_to}

-- b is the first step, or one behind it
pub has_cases : (b x : ℕ) (p : List ℕ) → has b (x ∷ p) ≡ true → (b ≡ x) ⊎ ((b ≡ x → ⊥) × (has b p ≡ true))
has_cases b x p h =
    ⊎_elim (λ e. inl e) (λ n. inr (n, sym (ap (λ t. t || has b p) (ne_eqb b x n)) ∙ h)) (cases_eq b x)

pub has_here : (b x : ℕ) (p : List ℕ) → b ≡ x → has b (x ∷ p) ≡ true
has_here b x p e = ap (λ t. t || has b p) (eq-eqb b x e)

pub has_there : (b x : ℕ) (p : List ℕ) → has b p ≡ true → has b (x ∷ p) ≡ true
has_there b x p h = ap (λ t. nat_eq b x || t) h ∙ or-true (nat_eq b x)

has_not_here : (b x : ℕ) (p : List ℕ) → has b (x ∷ p) ≡ false → (b ≡ x → ⊥) × (has b p ≡ false)
has_not_here b x p h = (
  λ e. let t = has_here b x p e in cc,
  ⊎_elim (λ t. let u = has_there b x p t in absurd (cc)) (λ f. f) (cases_Bool (has b p)),
)

-- what each step of the path has, b has
pub Each-has : (P : ℕ → Type 0) (p : List ℕ) (b : ℕ) → Each P p → has b p ≡ true → P b
Each-has P [] b h on = absurd (cc)
Each-has P (x ∷ p) b h on = ⊎_elim (λ e. subst P (sym e) h.0) (λ rest. Each-has P p b h.1 rest.1) (has_cases b x p on)

-- what holds of each number on a list
pub Each-of : (P : ℕ → Type 0) (xs : List ℕ) → ((x : ℕ) → has x xs ≡ true → P x) → Each P xs
Each-of P [] h = tt
Each-of P (x ∷ xs) h = (h x (has_here x x xs refl), Each-of P xs (λ y on. h y (has_there y x xs on)))

-- p is one of these
abbrev pub Among : List ℕ → List (List ℕ) → Type 0
Among p [] = ⊥
Among p (q ∷ qs) = (p ≡ q) ⊎ Among p qs

pub Each-among : (P : List ℕ → Type 0) (ps : List (List ℕ)) (p : List ℕ) → Each P ps → Among p ps → P p
Each-among P [] p h on = absurd on
Each-among P (q ∷ qs) p h on = ⊎_elim (λ e. subst P (sym e) h.0) (λ rest. Each-among P qs p h.1 rest) on

pub before_here : (b x : ℕ) (p : List ℕ) → b ≡ x → steps_before b (x ∷ p) ≡ []
before_here b x p e = ap (λ t. if t then [] else x ∷ steps_before b p) (eq-eqb x b (sym e))

pub before_there : (b x : ℕ) (p : List ℕ) → (b ≡ x → ⊥) → steps_before b (x ∷ p) ≡ x ∷ steps_before b p
before_there b x p n = ap (λ t. if t then [] else x ∷ steps_before b p) (ne_eqb x b (λ e. n (sym e)))

-- of two paths that part, a step on both has one branch
same_before : (b : ℕ) (p q : List ℕ) → PartsBelow p q → IsRising q → has b p ≡ true → has b q ≡ true → steps_before b p ≡ steps_before b q
same_before b [] q part rise on onq = absurd part
same_before b (x ∷ p) [] part rise on onq = absurd part
same_before b (x ∷ p) (y ∷ q) part rise on onq =
    ⊎_elim
    (λ same. ⊎_elim
    (λ e. before_here b x p e ∙ sym (before_here b y q (e ∙ same.0)))
    (λ rest.
    let onq' = ⊎_elim (λ e. absurd (rest.0 (e ∙ sym same.0))) (λ r. r.1) (has_cases b y q onq) in
    before_there b x p rest.0
    ∙ ap (λ xs. x ∷ xs) (same_before b p q same.1 rise.1 rest.1 onq')
    ∙ ap (λ z. z ∷ steps_before b q) same.0
    ∙ sym (before_there b y q (λ e. rest.0 (e ∙ sym same.0))))
    (has_cases b x p on))
    (λ below.
    let low : b < y = Each-has (λ z. z < y) (x ∷ p) b below on in
    absurd (⊎_elim (λ e. let f : b ≡ y = e in omega arith) (λ r. let high : y < b = Each-has (λ z. y < z) q b rise.0 r.1 in omega arith) (has_cases b y q onq)))
    part

-- a step has one branch on all paths
pub one_branch : (b : ℕ) (ps : List (List ℕ)) (p q : List ℕ) → AreInOrder ps → Each IsRising ps → Among p ps → Among q ps → has b p ≡ true → has b q ≡ true → steps_before b p ≡ steps_before b q
one_branch b [] p q order rise inp inq on onq = absurd inp
one_branch b (r ∷ ps) p q order rise inp inq on onq =
    ⊎_elim
    (λ e. ⊎_elim
    (λ f. ap (steps_before b) (e ∙ sym f))
    (λ later. same_before b p q (subst (λ z. PartsBelow z q) (sym e) (Each-among (PartsBelow r) ps q order.0 later)) (Each-among IsRising ps q rise.1 later) on onq)
    inq)
    (λ later. ⊎_elim
    (λ f. sym (same_before b q p (subst (λ z. PartsBelow z p) (sym f) (Each-among (PartsBelow r) ps p order.0 later)) (Each-among IsRising ps p rise.1 later) onq on))
    (λ too. one_branch b ps p q order.1 rise.1 later too on onq)
    inq)
    inp

-- the first path that has b is one of them, and has it
pub path_through-has : (b : ℕ) (ps : List (List ℕ)) (p : List ℕ) → Among p ps → has b p ≡ true → Among (path_through b ps) ps × (has b (path_through b ps) ≡ true)
path_through-has b [] p inp on = absurd inp
path_through-has b (q ∷ qs) p inp on =
    ⊎_elim
    (λ here.
    let e : path_through b (q ∷ qs) ≡ q = ap (λ t. if t then q else path_through b qs) here in
    (inl e, ap (has b) e ∙ here))
    (λ not_here.
    let e : path_through b (q ∷ qs) ≡ path_through b qs = ap (λ t. if t then q else path_through b qs) not_here in
    let rest = ⊎_elim (λ f. absurd (let g = ap (has b) f in cc)) (λ later. path_through-has b qs p later on) inp in
    (inr (subst (λ z. Among z qs) (sym e) rest.0), ap (has b) e ∙ rest.1))
    (cases_Bool (has b q))

-- the branch to b is what stands before it on any path that has it
pub branch_is : (t : Shape) (b : ℕ) (p : List ℕ) → AreInOrder t.paths → Each IsRising t.paths → Among p t.paths → has b p ≡ true → branch_to t b ≡ steps_before b p
branch_is t b p order rise inp on =
    let first = path_through-has b t.paths p inp on in
    one_branch b t.paths (path_through b t.paths) p order rise first.0 inp first.1 on
