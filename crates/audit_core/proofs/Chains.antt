-- Chains: what is found stays found, and what keeps a step from going.
use Rattle.std.proofs.Common.{◌≡◌, ◌⊎◌, inl, inr, Bool, true, false, ◌||◌, if◌then◌else◌, List, [], ◌∷◌, ◌++◌, eqb, sym, refl, ap, ◌∙◌}
use Rattle.std.specs.List.{list_any}
use Rattle.std.proofs.lemmas.Bool.{or_left, or_right, or_cases, false≢true, eqb-true, eq-eqb}
use Rattle.std.proofs.lemmas.List.Folds.{list_any-append}
use Rattle.process_tree.specs.declared.entry.Entry.{Entry}
use Rattle.schedule_model.specs.Conflict.{ConflictRelation, conflict}
use Rattle.dependence_model.specs.declared.placed.Placed.{Placed}
use Rattle.dependence_model.specs.Dependence.{depends, depends_on_any, chained, entries_of}
use Rattle.audit_core.specs.Taking.{is_own}

any_front : {X : Type 0} (p : X → Bool) (xs ys : List X) → list_any p xs ≡ true → list_any p (xs ++ ys) ≡ true
any_front p xs ys is = list_any-append p xs ys ∙ or_left (list_any p xs) (list_any p ys) is

any_last : {X : Type 0} (p : X → Bool) (xs : List X) (y : X) → p y ≡ true → list_any p (xs ++ y ∷ []) ≡ true
any_last p xs y is = list_any-append p xs (y ∷ []) ∙ or_right (list_any p xs) (p y || false) (or_left (p y) false is)

module _ (table : ConflictRelation) (f : Entry) where
  -- what is found stays found
  pub chained-found : (p : Entry → Bool) (found es : List Entry) → list_any p found ≡ true → list_any p (chained table f found es) ≡ true
  chained-found p found [] is = is
  chained-found p found (x ∷ xs) is =
      by (depends_on_any table (f ∷ found) x) (chained-found p (found ++ x ∷ []) xs (any_front p found (x ∷ []) is)) (chained-found p found xs is)
    where
      by : (t : Bool) → list_any p (chained table f (found ++ x ∷ []) xs) ≡ true → list_any p (chained table f found xs) ≡ true
          → list_any p (chained table f (if t then found ++ x ∷ [] else found) xs) ≡ true
      by true longer same = longer
      by false longer same = same

  -- an entry of the chain on which the undo depends
  pub chain_leads : (found rest whole : List Entry) (x u : Entry) → chained table f found (x ∷ rest) ≡ whole → depends_on_any table (f ∷ found) x ≡ true
      → depends table x u ≡ true → depends_on_any table whole u ≡ true
  chain_leads found rest whole x u is on leads =
      ap (λ es. depends_on_any table es u) (sym is)
      ∙ ap (λ t. depends_on_any table (chained table f (if t then found ++ x ∷ [] else found) rest) u) on
      ∙ chained-found (λ y. depends table y u) (found ++ x ∷ []) rest (any_last (λ y. depends table y u) found x leads)

  -- an entry of the step's own process keeps it from going
  pub own_stays : (found : List Entry) (between : List Placed) (u : Entry) → eqb f.process u.process ≡ true
      → list_any (is_own f.process) between ≡ true → depends_on_any table (chained table f found (entries_of between)) u ≡ true
  own_stays found [] u same has = absurd (false≢true has)
  own_stays found (x ∷ xs) u same has =
      by (λ there. own_stays (found ++ x.entry ∷ []) xs u same there) (λ there. own_stays found xs u same there)
      (or_cases (is_own f.process x) (list_any (is_own f.process) xs) has)
    where
      Later : List Entry → Type 0
      Later found' = list_any (is_own f.process) xs ≡ true → depends_on_any table (chained table f found' (entries_of xs)) u ≡ true

      more : Bool → List Entry
      more t = if t then found ++ x.entry ∷ [] else found

      later : (t : Bool) → Later (found ++ x.entry ∷ []) → Later found → Later (more t)
      later true longer same' = longer
      later false longer same' = same'

      by : Later (found ++ x.entry ∷ []) → Later found → (is_own f.process x ≡ true) ⊎ (list_any (is_own f.process) xs ≡ true) → depends_on_any table (chained table f found (x.entry ∷ entries_of xs)) u ≡ true
      by longer same' (inr there) = later (depends_on_any table (f ∷ found) x.entry) longer same' there
      by longer same' (inl here) =
          let one = eqb-true x.entry.process f.process here in
          let own : eqb f.process x.entry.process ≡ true = eq-eqb f.process x.entry.process (sym one) in
          let undoes : eqb x.entry.process u.process ≡ true = ap (λ i. eqb i u.process) one ∙ same in
          let on : depends_on_any table (f ∷ found) x.entry ≡ true = or_left (depends table f x.entry) (list_any (λ y. depends table y x.entry) found) (or_left (eqb f.process x.entry.process) (conflict table f x.entry) own) in
          chain_leads found (entries_of xs) (chained table f found (x.entry ∷ entries_of xs)) x.entry u refl on (or_left (eqb x.entry.process u.process) (conflict table x.entry u) undoes)
