-- The numbers of a list below a number, and the greatest of a list.
use Rattle.std.proofs.Common.{◌≡◌, ⊎_elim, ℕ, ◌<◌, ◌≤◌, true, List, [], ◌∷◌, filter, Option, Some, None, refl, sym, ap, ◌∙◌, arith, nat_lt, if◌then◌else◌}
use Rattle.std.proofs.lemmas.Bool.{lt-ltb, le-ltb, cases_lt}
use Rattle.process_tree.specs.Order.{has}
use Rattle.process_tree.specs.Shape.{greatest, greater}
use Rattle.process_tree.proofs.Branches.{has_cases, has_here, has_there}
use Rattle.process_tree.proofs.Numbers.{some_greater}

-- those below a number
abbrev pub below : ℕ → List ℕ → List ℕ
below x ns = filter (λ e. nat_lt e x) ns

pub below-in : (x n : ℕ) (ns : List ℕ) → n < x → below x (n ∷ ns) ≡ n ∷ below x ns
below-in x n ns lt = ap (λ t. if t then n ∷ below x ns else below x ns) (lt-ltb n x lt)

pub below-out : (x n : ℕ) (ns : List ℕ) → x ≤ n → below x (n ∷ ns) ≡ below x ns
below-out x n ns le = ap (λ t. if t then n ∷ below x ns else below x ns) (le-ltb n x le)

-- which of them are there
pub has_below : (x d : ℕ) (ns : List ℕ) → has d (below x ns) ≡ true → (has d ns ≡ true) × (d < x)
has_below x d [] on = absurd (cc)
has_below x d (n ∷ ns) on =
    ⊎_elim
    (λ lt. ⊎_elim
    (λ e. (has_here d n ns e, omega (arith, e)))
    (λ later. let r = has_below x d ns later.1 in (has_there d n ns r.0, r.1))
    (has_cases d n (below x ns) (sym (ap (has d) (below-in x n ns lt)) ∙ on)))
    (λ le. let r = has_below x d ns (sym (ap (has d) (below-out x n ns le)) ∙ on) in (has_there d n ns r.0, r.1))
    (cases_lt n x)

pub below_has : (x d : ℕ) (ns : List ℕ) → has d ns ≡ true → d < x → has d (below x ns) ≡ true
below_has x d [] on lt = absurd (cc)
below_has x d (n ∷ ns) on lt =
    ⊎_elim
    (λ e. ap (has d) (below-in x n ns (omega (arith, e))) ∙ has_here d n (below x ns) e)
    (λ later.
    let r = below_has x d ns later.1 lt in
    ⊎_elim
    (λ less. ap (has d) (below-in x n ns less) ∙ has_there d n (below x ns) r)
    (λ le. ap (has d) (below-out x n ns le) ∙ r)
    (cases_lt n x))
    (has_cases d n ns on)

-- the greatest is there, and no other is greater
pub greatest_is : (xs : List ℕ) (d : ℕ) → greatest xs ≡ Some d → (has d xs ≡ true) × ((e : ℕ) → has e xs ≡ true → e ≤ d)
greatest_is [] d is = absurd (cc)
greatest_is (x ∷ xs) d is = by_rest (greatest xs) refl (λ g e. greatest_is xs g e)
  where
    by_rest : (o : Option ℕ) → greatest xs ≡ o → ((g : ℕ) → greatest xs ≡ Some g → (has g xs ≡ true) × ((e : ℕ) → has e xs ≡ true → e ≤ g)) → (has d (x ∷ xs) ≡ true) × ((e : ℕ) → has e (x ∷ xs) ≡ true → e ≤ d)
    by_rest None r rec =
        let same : x ≡ d = (let f : Some x ≡ Some d = sym (ap (greater x) r) ∙ is in cc) in
        (has_here d x xs (sym same), λ e on. ⊎_elim (λ f. omega (arith, f, same)) (λ later. absurd (none_has e xs r later.1)) (has_cases e x xs on))
      where
        none_has : (e : ℕ) (xs : List ℕ) → greatest xs ≡ None → has e xs ≡ true → ⊥
        none_has e [] r on = cc
        none_has e (y ∷ ys) r on = some_greater y (greatest ys) r
    by_rest (Some g) r rec =
        let rest = rec g r in
        ⊎_elim
        (λ lt.
        let same : x ≡ d = (let f : Some x ≡ Some d = sym (ap (greater x) r ∙ ap (λ t. if t then Some x else Some g) (lt-ltb g x lt)) ∙ is in cc) in
        (has_here d x xs (sym same), λ e on. ⊎_elim (λ f. omega (arith, f, same)) (λ later. omega (arith, rest.1 e later.1)) (has_cases e x xs on)))
        (λ le.
        let same : g ≡ d = (let f : Some g ≡ Some d = sym (ap (greater x) r ∙ ap (λ t. if t then Some x else Some g) (le-ltb g x le)) ∙ is in cc) in
        (has_there d x xs (ap (λ z. has z xs) (sym same) ∙ rest.0), λ e on. ⊎_elim (λ f. omega (arith, f, same)) (λ later. omega (arith, rest.1 e later.1, same)) (has_cases e x xs on)))
        (cases_lt g x)

-- where there is none, the list is empty
pub greatest_none : (xs : List ℕ) → greatest xs ≡ None → xs ≡ []
greatest_none [] is = refl
greatest_none (x ∷ xs) is = absurd (some_greater x (greatest xs) is)
