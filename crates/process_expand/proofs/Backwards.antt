-- What is counted and found on the way.
use Rattle.std.proofs.Common.{◌≡◌, ◌∙◌, ◌<◌, ◌+◌, ◌++◌, ℕ, List, [], ◌∷◌, reverse, take, drop, refl, ap, sym, subst, arith}
use Rattle.std.proofs.lemmas.List.{reverse-append, take-append-drop}
use Rattle.process_expand.specs.declared.tokens.Token.{Token}
use Rattle.process_expand.specs.Expansion.{State, names_one, state_from, steps_in, IsTooLong}

steps-append : (xs ys : List Token) → steps_in (xs ++ ys) ≡ steps_in xs + steps_in ys
steps-append [] ys = omega arith
steps-append (x ∷ xs) ys =
    let later = steps-append xs ys in
    let first = ap (λ (n : ℕ). names_one x.role + n) later in
    omega (arith, first)

-- as many steps are there backwards
pub steps_reversed : (xs : List Token) → steps_in (reverse xs) ≡ steps_in xs
steps_reversed [] = refl
steps_reversed (x ∷ xs) =
    let apart : steps_in (reverse (x ∷ xs)) ≡ steps_in (reverse xs) + steps_in (x ∷ []) =
    ap steps_in (reverse-append (x ∷ []) xs) ∙ steps-append (reverse xs) (x ∷ []) in
    let later = steps_reversed xs in
    let one : steps_in (x ∷ []) ≡ names_one x.role + 0 = refl in
    let whole : steps_in (x ∷ xs) ≡ names_one x.role + steps_in xs = refl in
    omega (arith, apart, later, one, whole)

-- where more than 256 steps are written from a place on, too much is to be written
pub too_long : (ts : List Token) (n : ℕ) (s : State) → s ≡ state_from (drop n ts) → 256 < steps_in s.text → IsTooLong ts
too_long ts n s is more = (take n ts, drop n ts, sym (take-append-drop n ts), subst (λ (u : State). 256 < steps_in u.text) is more)
