-- The pieces of a group that run.
use Rattle.std.proofs.Common.{◌≡◌, ◌≤◌, eqb, ℕ, Bool, true, false, cond, List, [], ◌∷◌, length, filter, refl, sym, subst, arith}
use Rattle.std.proofs.lemmas.Bool.{or_parts}
use Rattle.process_tree.specs.Order.{Each}
use Rattle.schedule_model.specs.Histories.{is_in}
use Rattle.machine_model.specs.Moment.{Piece}
use Rattle.process_engine.specs.Pieces.{AreDistinct, numbers_of}

-- of some of them: what holds of each holds of each of these,
pub each_of_some : {A : Type 0} (P : A → Type 0) (t : A → Bool) (xs : List A) → Each P xs → Each P (filter t xs)
each_of_some P t [] each = tt
each_of_some P t (x ∷ xs) each = by (t x) (each_of_some P t xs each.1)
  where
    by : (b : Bool) → Each P (filter t xs) → Each P (cond b (x ∷ filter t xs) (filter t xs))
    by true rest = (each.0, rest)
    by false rest = rest

-- they pass,
pub each_passes : {A : Type 0} (t : A → Bool) (xs : List A) → Each (λ x. t x ≡ true) (filter t xs)
each_passes t [] = tt
each_passes t (x ∷ xs) = by (t x) refl (each_passes t xs)
  where
    by : (b : Bool) → t x ≡ b → Each (λ y. t y ≡ true) (filter t xs) → Each (λ y. t y ≡ true) (cond b (x ∷ filter t xs) (filter t xs))
    by true is rest = (is, rest)
    by false is rest = rest

-- there are no more of them,
pub some_fewer : {A : Type 0} (t : A → Bool) (xs : List A) → length (filter t xs) ≤ length xs
some_fewer t [] = omega arith
some_fewer t (x ∷ xs) = by (t x) (some_fewer t xs)
  where
    by : (b : Bool) → length (filter t xs) ≤ length xs → length (cond b (x ∷ filter t xs) (filter t xs)) ≤ length (x ∷ xs)
    by true rest = omega (arith, rest)
    by false rest = omega (arith, rest)

-- and their numbers are distinct
none_of_some : (n : ℕ) (t : Piece → Bool) (ps : List Piece) → is_in n (numbers_of ps) ≡ false → is_in n (numbers_of (filter t ps)) ≡ false
none_of_some n t [] none = refl
none_of_some n t (p ∷ ps) none = by (t p) (or_parts (eqb n p.number) (is_in n (numbers_of ps)) none).0 (none_of_some n t ps (or_parts (eqb n p.number) (is_in n (numbers_of ps)) none).1)
  where
    by : (b : Bool) → eqb n p.number ≡ false → is_in n (numbers_of (filter t ps)) ≡ false → is_in n (numbers_of (cond b (p ∷ filter t ps) (filter t ps))) ≡ false
    by true other rest = rw other rest
    by false other rest = rest

pub some_distinct : (t : Piece → Bool) (ps : List Piece) → AreDistinct (numbers_of ps) → AreDistinct (numbers_of (filter t ps))
some_distinct t [] distinct = tt
some_distinct t (p ∷ ps) distinct = by (t p) (none_of_some p.number t ps distinct.0) (some_distinct t ps distinct.1)
  where
    by : (b : Bool) → is_in p.number (numbers_of (filter t ps)) ≡ false → AreDistinct (numbers_of (filter t ps)) → AreDistinct (numbers_of (cond b (p ∷ filter t ps) (filter t ps)))
    by true none rest = (none, rest)
    by false none rest = rest

-- of those that pass one test as many pass another as of all, or fewer
pub some_fewer_pass : {A : Type 0} (t u : A → Bool) (xs : List A) → length (filter u (filter t xs)) ≤ length (filter u xs)
some_fewer_pass t u [] = omega arith
some_fewer_pass t u (x ∷ xs) = by (t x) (u x) refl (some_fewer_pass t u xs)
  where
    by : (b d : Bool) → u x ≡ d → length (filter u (filter t xs)) ≤ length (filter u xs)
        → length (filter u (cond b (x ∷ filter t xs) (filter t xs))) ≤ length (cond d (x ∷ filter u xs) (filter u xs))
    by true true is rest = subst (λ c. length (cond c (x ∷ filter u (filter t xs)) (filter u (filter t xs))) ≤ length (x ∷ filter u xs)) (sym is) (omega (arith, rest))
    by true false is rest = subst (λ c. length (cond c (x ∷ filter u (filter t xs)) (filter u (filter t xs))) ≤ length (filter u xs)) (sym is) rest
    by false true is rest = omega (arith, rest)
    by false false is rest = rest
