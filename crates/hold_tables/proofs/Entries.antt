-- The entries of one process among those of all, as the net changes.
use Rattle.std.proofs.Common.{◌≡◌, ℕ, suc, ◌+◌, ◌≤◌, ◌<◌, Bool, true, false, ◌||◌, List, [], ◌∷◌, ◌++◌, length, sym, refl, ap, subst, arith, eqb}
use Rattle.std.specs.Prelude.{nat_eq}
use Rattle.std.specs.List.{IsDistinct, AllByRecursion, list_any}
use Rattle.std.proofs.lemmas.Bool.{eqb-true, eqb-false, eq-eqb, ne_eqb}
use Rattle.std.proofs.lemmas.Map.Steps.{length-le_from_distinct_below}
use Rattle.process_tree.specs.declared.entry.Entry.{Entry}
use Rattle.process_tree.specs.Order.{Each}
use Rattle.schedule_model.specs.Histories.{is_in, of_process}
use Rattle.hold_tables.specs.Changes.{steps_of}

-- an entry more at the end, of that process
pub one_more : (i : ℕ) (es : List Entry) (e : Entry) → e.process ≡ i → of_process i (es ++ e ∷ []) ≡ of_process i es ++ e ∷ []
one_more i [] e is = rw (eq-eqb e.process i is) refl
one_more i (x ∷ es) e is = by (nat_eq x.process i) refl (one_more i es e is)
  where
    by : (b : Bool) → nat_eq x.process i ≡ b → of_process i (es ++ e ∷ []) ≡ of_process i es ++ e ∷ [] → of_process i (x ∷ (es ++ e ∷ [])) ≡ of_process i (x ∷ es) ++ e ∷ []
    by true test rest = rw test (ap (x ∷◌) rest)
    by false test rest = rw test rest

-- an entry more at the end, of another process
pub none_more : (k : ℕ) (es : List Entry) (e : Entry) → nat_eq e.process k ≡ false → of_process k (es ++ e ∷ []) ≡ of_process k es
none_more k [] e other = rw other refl
none_more k (x ∷ es) e other = by (nat_eq x.process k) refl (none_more k es e other)
  where
    by : (b : Bool) → nat_eq x.process k ≡ b → of_process k (es ++ e ∷ []) ≡ of_process k es → of_process k (x ∷ (es ++ e ∷ [])) ≡ of_process k (x ∷ es)
    by true test rest = rw test (ap (x ∷◌) rest)
    by false test rest = rw test rest

-- without its last entry, a process has the others
abbrev pub init : List Entry → List Entry
init [] = []
init (x ∷ []) = []
init (x ∷ y ∷ es) = x ∷ init (y ∷ es)

-- what is true of each, and of one more
pub each_more : {A : Type 0} (P : A → Type 0) (xs : List A) (x : A) → Each P xs → P x → Each P (xs ++ x ∷ [])
each_more P [] x each is = (is, tt)
each_more P (y ∷ xs) x each is = (each.0, each_more P xs x each.1 is)

apart_more : (d : ℕ) (ns : List ℕ) (n : ℕ) → AllByRecursion (λ m. nat_eq d m ≡ false) ns → nat_eq d n ≡ false → AllByRecursion (λ m. nat_eq d m ≡ false) (ns ++ n ∷ [])
apart_more d [] n each is = (is, tt)
apart_more d (m ∷ ns) n each is = (each.0, apart_more d ns n each.1 is)

flip : (a b : ℕ) → nat_eq a b ≡ false → nat_eq b a ≡ false
flip a b is = ne_eqb b a (λ same. eqb-false a b is (sym same))

-- no number stands twice, and a new one comes
pub once_more : (ns : List ℕ) (n : ℕ) → IsDistinct nat_eq ns → is_in n ns ≡ false → IsDistinct nat_eq (ns ++ n ∷ [])
unfolding IsDistinct
once_more [] n once new = (tt, tt)
once_more (m ∷ ns) n once new = by (nat_eq n m) refl (once_more ns n once.1)
  where
    by : (b : Bool) → nat_eq n m ≡ b → (is_in n ns ≡ false → IsDistinct nat_eq (ns ++ n ∷ [])) → IsDistinct nat_eq (m ∷ (ns ++ n ∷ []))
    by true is rest = absurd (let no : true ≡ false = subst (λ b. (b || is_in n ns) ≡ false) is new in cc)
    by false is rest = (apart_more m ns n once.0 (flip n m is), rest (subst (λ b. (b || is_in n ns) ≡ false) is new))

steps_more : (es : List Entry) (e : Entry) → steps_of (es ++ e ∷ []) ≡ steps_of es ++ e.step ∷ []
steps_more [] e = refl
steps_more (x ∷ es) e = ap (x.step ∷◌) (steps_more es e)

-- the steps stay distinct where a new one comes
pub steps_once : (es : List Entry) (e : Entry) → IsDistinct nat_eq (steps_of es) → is_in e.step (steps_of es) ≡ false → IsDistinct nat_eq (steps_of (es ++ e ∷ []))
steps_once es e once new = subst (IsDistinct nat_eq) (sym (steps_more es e)) (once_more (steps_of es) e.step once new)

count_steps : (es : List Entry) → length (steps_of es) ≡ length es
count_steps [] = refl
count_steps (e ∷ es) = ap suc (count_steps es)

below : (n : ℕ) (es : List Entry) → Each (λ e. e.step < n) es → (q : ℕ) → list_any (eqb q) (steps_of es) ≡ true → q < n
below n [] each q is = absurd cc
below n (e ∷ es) each q is = by (eqb q e.step) refl (below n es each.1 q)
  where
    by : (b : Bool) → eqb q e.step ≡ b → (list_any (eqb q) (steps_of es) ≡ true → q < n) → q < n
    by true test rest = subst (λ m. m < n) (sym (eqb-true q e.step test)) each.0
    by false test rest = rest (subst (λ b. (b || list_any (eqb q) (steps_of es)) ≡ true) test is)

-- there are no more entries of distinct steps than steps
pub few : (n : ℕ) (es : List Entry) → Each (λ e. e.step < n) es → IsDistinct nat_eq (steps_of es) → length es ≤ n
few n es within once = subst (λ m. m ≤ n) (count_steps es) (length-le_from_distinct_below (steps_of es) n once (below n es within))

pub length_more : (es : List Entry) (e : Entry) → length (es ++ e ∷ []) ≡ length es + 1
length_more [] e = omega arith
length_more (x ∷ es) e = let longer = length_more es e in omega (arith, longer)
