-- Lists in which each step comes once and is undone once, behind it; and what exchanges and cancels make of them.
use Rattle.std.proofs.Common.{◌≡◌, inl, inr, ⊎_elim, Bool, true, false, not, eqb, ◌&&◌, ◌||◌, List, [], ◌∷◌, ◌++◌, refl, sym, ap, ◌∙◌}
use Rattle.std.specs.List.{list_any}
use Rattle.std.proofs.lemmas.Bool.{and_parts, and_from, or_parts, or_cases, or_left, or_right, eqb-true, eq-eqb, false≢true}
use Rattle.std.proofs.lemmas.List.Folds.{list_any-append}
use Rattle.process_tree.specs.declared.entry.Entry.{Entry}
use Rattle.schedule_model.specs.Histories.{same_step}
use Rattle.schedule_model.proofs.Members.{Among}
use Rattle.value_rules.specs.Laws.{AreOnce, clash_later, has}

or_comm : (s t : Bool) → (s || t) ≡ (t || s)
or_comm true true = refl
or_comm true false = refl
or_comm false true = refl
or_comm false false = refl

or_swap : (s t u : Bool) → (s || (t || u)) ≡ (t || (s || u))
or_swap true true u = refl
or_swap true false u = refl
or_swap false t u = refl

pub any-swap : (p : Entry → Bool) (before : List Entry) (a b : Entry) (rest : List Entry) → list_any p (before ++ a ∷ b ∷ rest) ≡ list_any p (before ++ b ∷ a ∷ rest)
any-swap p [] a b rest = or_swap (p a) (p b) (list_any p rest)
any-swap p (e ∷ before) a b rest = ap (λ t. p e || t) (any-swap p before a b rest)

pub any-less : (p : Entry → Bool) (before : List Entry) (a b : Entry) (rest : List Entry) → list_any p (before ++ rest) ≡ true → list_any p (before ++ a ∷ b ∷ rest) ≡ true
any-less p [] a b rest is = or_right (p a) (p b || list_any p rest) (or_right (p b) (list_any p rest) is)
any-less p (e ∷ before) a b rest is =
    ⊎_elim (λ here. or_left (p e) (list_any p (before ++ a ∷ b ∷ rest)) here) (λ later. or_right (p e) (list_any p (before ++ a ∷ b ∷ rest)) (any-less p before a b rest later))
    (or_cases (p e) (list_any p (before ++ rest)) is)

-- what stands in a list with neighbours exchanged stood in it
pub among-swap : (e : Entry) (before : List Entry) (a b : Entry) (rest : List Entry) → Among e (before ++ a ∷ b ∷ rest) → Among e (before ++ b ∷ a ∷ rest)
among-swap e [] a b rest (inl here) = inr (inl here)
among-swap e [] a b rest (inr (inl next)) = inl next
among-swap e [] a b rest (inr (inr later)) = inr (inr later)
among-swap e (f ∷ before) a b rest (inl here) = inl here
among-swap e (f ∷ before) a b rest (inr later) = inr (among-swap e before a b rest later)

none-less : (p : Entry → Bool) (before : List Entry) (a b : Entry) (rest : List Entry) → list_any p (before ++ a ∷ b ∷ rest) ≡ false → list_any p (before ++ rest) ≡ false
none-less p before a b rest none = by_test (list_any p (before ++ rest)) refl
  where
    by_test : (t : Bool) → list_any p (before ++ rest) ≡ t → list_any p (before ++ rest) ≡ false
    by_test false is = is
    by_test true is = absurd (false≢true (sym none ∙ any-less p before a b rest is))

-- what passes a stronger test passes a weaker one
none-weaker : (p q : Entry → Bool) → ((x : Entry) → q x ≡ true → p x ≡ true) → (xs : List Entry) → list_any p xs ≡ false → list_any q xs ≡ false
none-weaker p q h [] none = refl
none-weaker p q h (x ∷ xs) none = by_test (q x) refl (none-weaker p q h xs (or_parts (p x) (list_any p xs) none).1)
  where
    by_test : (t : Bool) → q x ≡ t → list_any q xs ≡ false → (q x || list_any q xs) ≡ false
    by_test true is rest = absurd (false≢true (sym (or_parts (p x) (list_any p xs) none).0 ∙ h x is))
    by_test false is rest = ap (λ t. t || list_any q xs) is ∙ rest

pub once-swap : (before : List Entry) (a b : Entry) (rest : List Entry) → same_step b a ≡ false → AreOnce (before ++ a ∷ b ∷ rest) → AreOnce (before ++ b ∷ a ∷ rest)
once-swap [] a b rest other once =
    let a_parts = or_parts (clash_later a b) (list_any (clash_later a) rest) once.0 in (
      ap (λ t. (t && (b.undo || not a.undo)) || list_any (clash_later b) rest) other ∙ once.1.0,
      (a_parts.1, once.1.1),
    )
once-swap (e ∷ before) a b rest other once = (sym (any-swap (clash_later e) before a b rest) ∙ once.0, once-swap before a b rest other once.1)

pub once-less : (before : List Entry) (a b : Entry) (rest : List Entry) → AreOnce (before ++ a ∷ b ∷ rest) → AreOnce (before ++ rest)
once-less [] a b rest once = once.1.1
once-less (e ∷ before) a b rest once = (none-less (clash_later e) before a b rest once.0, once-less before a b rest once.1)

-- of a step that goes with its undo nothing is left
pub gone : (before : List Entry) (a b : Entry) (rest : List Entry) → a.undo ≡ false → b.undo ≡ true → same_step a b ≡ true → AreOnce (before ++ a ∷ b ∷ rest)
    → has a.process a.step (before ++ rest) ≡ false
gone [] a b rest done undone same once =
    none-weaker (clash_later b) (λ e. eqb e.process a.process && eqb e.step a.step)
    (λ e is.
    let p = and_parts (eqb e.process a.process) (eqb e.step a.step) is in
    let q = and_parts (eqb a.process b.process) (eqb a.step b.step) same in
    and_from (same_step b e) (b.undo || not e.undo)
    (and_from (eqb b.process e.process) (eqb b.step e.step)
    (eq-eqb b.process e.process (sym (eqb-true a.process b.process q.0) ∙ sym (eqb-true e.process a.process p.0)))
    (eq-eqb b.step e.step (sym (eqb-true a.step b.step q.1) ∙ sym (eqb-true e.step a.step p.1))))
    (or_left b.undo (not e.undo) undone))
    rest once.1.0
gone (e ∷ before) a b rest done undone same once = by_test (eqb e.process a.process && eqb e.step a.step) refl (gone before a b rest done undone same once.1)
  where
    clash : (eqb e.process a.process && eqb e.step a.step) ≡ true → list_any (clash_later e) (before ++ a ∷ b ∷ rest) ≡ true
    clash is = list_any-append (clash_later e) before (a ∷ b ∷ rest)
        ∙ or_right (list_any (clash_later e) before) (list_any (clash_later e) (a ∷ b ∷ rest))
        (or_left (clash_later e a) (list_any (clash_later e) (b ∷ rest)) (and_from (same_step e a) (e.undo || not a.undo) is (or_right e.undo (not a.undo) (ap not done))))

    by_test : (t : Bool) → (eqb e.process a.process && eqb e.step a.step) ≡ t → has a.process a.step (before ++ rest) ≡ false → has a.process a.step (e ∷ (before ++ rest)) ≡ false
    by_test true is later = absurd (false≢true (sym once.0 ∙ clash is))
    by_test false is later = ap (λ t. t || has a.process a.step (before ++ rest)) is ∙ later
