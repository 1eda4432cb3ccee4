-- Tests of guards, and of lists.
use Rattle.std.proofs.Common.{◌≡◌, ℕ, Bool, true, false, not, if◌then◌else◌, ◌||◌, eqb, List, [], ◌∷◌, ◌++◌, sym, refl, subst}
use Rattle.std.specs.List.{list_all}
use Rattle.std.proofs.lemmas.Bool.{and_parts, false≢true}
use Rattle.exactly_once.specs.Names.{Name, has, same_name}
use Rattle.exactly_once.specs.Machine.{Phase, Closed, Opened, Working, World, is_closed, is_in, is_opened, is_working}
use Rattle.exactly_once.proofs.Names.{same_is}

-- of a test, by its two ends
pub if_keeps : (P : World → Type 0) (t : Bool) (x y : World) → (t ≡ true → P x) → P y → P (if t then x else y)
if_keeps P true x y a b = a refl
if_keeps P false x y a b = b

pub or_none : (a b : Bool) → (a || b) ≡ false → (a ≡ false) × (b ≡ false)
or_none true b is = absurd (false≢true (sym is))
or_none false b is = (refl, is)

pub or_elim : {P : Type 0} (a b : Bool) → (a ≡ true → P) → (b ≡ true → P) → (a || b) ≡ true → P
or_elim true b left right is = left refl
or_elim false b left right is = right is

pub or_first : (a b : Bool) → a ≡ true → (a || b) ≡ true
or_first true b is = refl
or_first false b is = absurd (false≢true is)

pub or_second : (a b : Bool) → b ≡ true → (a || b) ≡ true
or_second true b is = refl
or_second false b is = is

pub not_is : (t : Bool) → not t ≡ true → t ≡ false
not_is true is = absurd (false≢true is)
not_is false is = refl

pub closed_works : (f : Phase) → is_closed f ≡ true → is_working f ≡ true → ⊥
closed_works Closed c w = false≢true w
closed_works Opened c w = false≢true c
closed_works Working c w = false≢true c

pub opened_works : (f : Phase) → is_opened f ≡ true → is_working f ≡ true → ⊥
opened_works Closed o w = false≢true o
opened_works Opened o w = false≢true w
opened_works Working o w = false≢true o

pub closed_opened : (f : Phase) → is_closed f ≡ true → is_opened f ≡ true → ⊥
closed_opened Closed c o = false≢true o
closed_opened Opened c o = false≢true c
closed_opened Working c o = false≢true c

-- who stands in one of two lists
pub in_both : (i : ℕ) (xs ys : List ℕ) → is_in i (xs ++ ys) ≡ true → (is_in i xs || is_in i ys) ≡ true
in_both i [] ys is = is
in_both i (x ∷ xs) ys is = by_test (eqb x i) (in_both i xs ys) is
  where
    by_test : (t : Bool) → (is_in i (xs ++ ys) ≡ true → (is_in i xs || is_in i ys) ≡ true) → (t || is_in i (xs ++ ys)) ≡ true
        → ((t || is_in i xs) || is_in i ys) ≡ true
    by_test true rest is = refl
    by_test false rest is = rest is

-- what holds of each name holds of one that is listed
pub of_listed : (f : Name → Bool) (ns : List Name) (n : Name) → list_all f ns ≡ true → has ns n ≡ true → f n ≡ true
of_listed f [] n all is = absurd (false≢true is)
of_listed f (m ∷ ns) n all is = by_test (same_name m n) refl (of_listed f ns n (and_parts (f m) (list_all f ns) all).1) is
  where
    by_test : (t : Bool) → same_name m n ≡ t → (has ns n ≡ true → f n ≡ true) → (t || has ns n) ≡ true → f n ≡ true
    by_test true same rest is = subst (λ x. f x ≡ true) (same_is m n same) (and_parts (f m) (list_all f ns) all).0
    by_test false same rest is = rest is
