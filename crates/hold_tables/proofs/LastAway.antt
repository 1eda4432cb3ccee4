-- The net without the last entry of one process.
use Rattle.std.proofs.Common.{◌≡◌, ℕ, ◌+◌, ◌-◌, ◌<◌, Bool, true, false, not, ◌&&◌, ◌||◌, List, [], ◌∷◌, length, sym, refl, ap, ◌∙◌, subst, arith}
use Rattle.std.specs.Prelude.{nat_eq, if◌then◌else◌}
use Rattle.std.specs.List.{IsDistinct, AllByRecursion}
use Rattle.std.proofs.lemmas.Bool.{eqb-true, eqb-false, ne_eqb}
use Rattle.process_tree.specs.declared.entry.Entry.{Entry}
use Rattle.process_tree.specs.Order.{Each}
use Rattle.schedule_model.specs.Histories.{of_process}
use Rattle.hold_tables.specs.Changes.{has_entry, steps_of, without_last}
use Rattle.hold_tables.proofs.Entries.{init}

-- a process without an entry has none among its own
pub none_own : (i : ℕ) (es : List Entry) → has_entry i es ≡ false → of_process i es ≡ []
none_own i [] none = refl
none_own i (e ∷ es) none = by (nat_eq e.process i) refl (none_own i es)
  where
    by : (b : Bool) → nat_eq e.process i ≡ b → (has_entry i es ≡ false → of_process i es ≡ []) → of_process i (e ∷ es) ≡ []
    by true is rest = absurd (let no : true ≡ false = subst (λ b. (b || has_entry i es) ≡ false) is none in cc)
    by false is rest = rw is (rest (subst (λ b. (b || has_entry i es) ≡ false) is none))

-- one with an entry has some
some_own : (i : ℕ) (es : List Entry) → has_entry i es ≡ true → 0 < length (of_process i es)
some_own i [] some = absurd cc
some_own i (e ∷ es) some = by (nat_eq e.process i) refl (some_own i es)
  where
    by : (b : Bool) → nat_eq e.process i ≡ b → (has_entry i es ≡ true → 0 < length (of_process i es)) → 0 < length (of_process i (e ∷ es))
    by true is rest = rw is (omega arith)
    by false is rest = rw is (rest (subst (λ b. (b || has_entry i es) ≡ true) is some))

init_more : (e : Entry) (es : List Entry) → 0 < length es → init (e ∷ es) ≡ e ∷ init es
init_more e [] some = absurd (omega (arith, some))
init_more e (x ∷ es) some = refl

-- without its last entry, a process has its others
pub own_without : (i : ℕ) (es : List Entry) → of_process i (without_last i es) ≡ init (of_process i es)
own_without i [] = refl
own_without i (e ∷ es) = by (nat_eq e.process i) (has_entry i es) refl refl (own_without i es)
  where
    by : (b h : Bool) → nat_eq e.process i ≡ b → has_entry i es ≡ h → of_process i (without_last i es) ≡ init (of_process i es)
        → of_process i (without_last i (e ∷ es)) ≡ init (of_process i (e ∷ es))
    by true true is has rest = rw (is, has, is) (ap (e ∷◌) rest ∙ sym (init_more e (of_process i es) (some_own i es has)))
    by true false is has rest = rw (is, has, none_own i es has) refl
    by false h is has rest = rw (is, is) rest

same_head : (k : ℕ) (e : Entry) (xs ys : List Entry) → of_process k xs ≡ of_process k ys → of_process k (e ∷ xs) ≡ of_process k (e ∷ ys)
same_head k e xs ys same = by (nat_eq e.process k) refl
  where
    by : (b : Bool) → nat_eq e.process k ≡ b → of_process k (e ∷ xs) ≡ of_process k (e ∷ ys)
    by true is = rw is (ap (e ∷◌) same)
    by false is = rw is same

-- and each other process has what it had
pub other_without : (i k : ℕ) (es : List Entry) → nat_eq k i ≡ false → of_process k (without_last i es) ≡ of_process k es
other_without i k [] other = refl
other_without i k (e ∷ es) other = by (nat_eq e.process i) (has_entry i es) refl refl (other_without i k es other)
  where
    away : e.process ≡ i → nat_eq e.process k ≡ false
    away is = ne_eqb e.process k (λ same. eqb-false k i other (sym same ∙ is))

    kept : of_process k (without_last i es) ≡ of_process k es → of_process k (e ∷ without_last i es) ≡ of_process k (e ∷ es)
    kept rest = same_head k e (without_last i es) es rest

    by : (b h : Bool) → nat_eq e.process i ≡ b → has_entry i es ≡ h → of_process k (without_last i es) ≡ of_process k es
        → of_process k (without_last i (e ∷ es)) ≡ of_process k (e ∷ es)
    by true true is has rest = rw (is, has) (kept rest)
    by true false is has rest = rw (is, has, away (eqb-true e.process i is)) refl
    by false h is has rest = rw is (kept rest)

-- there is one entry less
pub one_less : (i : ℕ) (es : List Entry) → has_entry i es ≡ true → length (without_last i es) + 1 ≡ length es
one_less i [] has = absurd cc
one_less i (e ∷ es) has = by (nat_eq e.process i) (has_entry i es) refl refl (one_less i es)
  where
    by : (b h : Bool) → nat_eq e.process i ≡ b → has_entry i es ≡ h → (has_entry i es ≡ true → length (without_last i es) + 1 ≡ length es)
        → length (without_last i (e ∷ es)) + 1 ≡ length (e ∷ es)
    by true false is h_is rest = rw (is, h_is) (omega arith)
    by true true is h_is rest = let less = rest h_is in rw (is, h_is) (omega (arith, less))
    by false true is h_is rest = let less = rest h_is in rw is (omega (arith, less))
    by false false is h_is rest = absurd (let no : has_entry i es ≡ true = subst (λ b. (b || has_entry i es) ≡ true) is has in let no2 : false ≡ true = sym h_is ∙ no in cc)

-- what is true of each is true of those that stay
pub each_without : (P : Entry → Type 0) (i : ℕ) (es : List Entry) → Each P es → Each P (without_last i es)
each_without P i [] each = each
each_without P i (e ∷ es) each = by (nat_eq e.process i && not (has_entry i es)) (each_without P i es each.1)
  where
    by : (b : Bool) → Each P (without_last i es) → Each P (if b then es else e ∷ without_last i es)
    by true rest = each.1
    by false rest = (each.0, rest)

pub each_init : (P : Entry → Type 0) (es : List Entry) → Each P es → Each P (init es)
each_init P [] each = tt
each_init P (x ∷ []) each = tt
each_init P (x ∷ y ∷ es) each = (each.0, each_init P (y ∷ es) each.1)

apart_init : (d : ℕ) (es : List Entry) → AllByRecursion (λ m. nat_eq d m ≡ false) (steps_of es) → AllByRecursion (λ m. nat_eq d m ≡ false) (steps_of (init es))
apart_init d [] each = tt
apart_init d (x ∷ []) each = tt
apart_init d (x ∷ y ∷ es) each = (each.0, apart_init d (y ∷ es) each.1)

pub once_init : (es : List Entry) → IsDistinct nat_eq (steps_of es) → IsDistinct nat_eq (steps_of (init es))
unfolding IsDistinct
once_init [] once = tt
once_init (x ∷ []) once = tt
once_init (x ∷ y ∷ es) once = (apart_init x.step (y ∷ es) once.0, once_init (y ∷ es) once.1)

pub count_init : (es : List Entry) → length (init es) ≡ length es - 1
count_init [] = omega arith
count_init (x ∷ []) = omega arith
count_init (x ∷ y ∷ es) = let less = count_init (y ∷ es) in omega (arith, less)

pub has-some : (i : ℕ) (es : List Entry) → 0 < length (of_process i es) → (b : Bool) → has_entry i es ≡ b → has_entry i es ≡ true
has-some i es some true is = is
has-some i es some false is = absurd (let none : length (of_process i es) ≡ 0 = ap length (none_own i es is) in omega (arith, some, none))
