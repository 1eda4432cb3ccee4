-- Where a cancel applies, and where it doesn't.
use Rattle.std.proofs.Common.{◌≡◌, ℕ, zero, suc, ◌<◌, ◌≤◌, true, false, cond, List, [], ◌∷◌, length, drop, get_or, Some, None, sym, refl, ap, ◌∙◌, arith}
use Rattle.std.specs.List.{remove}
use Rattle.std.specs.Option.{option_map}
use Rattle.process_tree.specs.declared.entry.Entry.{Entry}
use Rattle.schedule_model.specs.Reduction.{cancelled, is_pair}

-- there is no place 0
pub cancelled-zero : (xs : List Entry) → cancelled 0 xs ≡ None
cancelled-zero [] = refl
cancelled-zero (a ∷ xs) = refl

-- nothing stands behind the last place
pub cancelled-past : (at : ℕ) (xs : List Entry) → length xs ≤ at → cancelled at xs ≡ None
cancelled-past at [] le = refl
cancelled-past zero (a ∷ xs) le = refl
cancelled-past (suc zero) (a ∷ []) le = refl
cancelled-past (suc zero) (a ∷ b ∷ xs) le = absurd (omega arith)
cancelled-past (suc (suc at)) (a ∷ xs) le = ap (option_map (λ ys. a ∷ ys)) (cancelled-past (suc at) xs (omega arith))

-- the entries at a place and the next stay where they aren't a pair
pub cancelled-refused : (at : ℕ) (xs : List Entry) (a b : Entry) → suc at < length xs → a ≡ get_or xs at a → b ≡ get_or xs (suc at) b
    → is_pair a b ≡ false → cancelled (suc at) xs ≡ None
cancelled-refused at [] a b less here next no' = absurd (omega arith)
cancelled-refused zero (x ∷ []) a b less here next no' = absurd (omega arith)
cancelled-refused zero (x ∷ y ∷ xs) a b less here next no' = ap (λ t. cond t (Some xs) None) (sym (ap (λ z. is_pair z y) here) ∙ (sym (ap (is_pair a) next) ∙ no'))
cancelled-refused (suc at) (x ∷ xs) a b less here next no' = ap (option_map (λ ys. x ∷ ys)) (cancelled-refused at xs a b (omega arith) here next no')

-- and go where they are
pub cancelled-pair : (at : ℕ) (xs : List Entry) (a b : Entry) → suc at < length xs → a ≡ get_or xs at a → b ≡ get_or xs (suc at) b
    → is_pair a b ≡ true → cancelled (suc at) xs ≡ Some (remove (remove xs at) at)
cancelled-pair at [] a b less here next pair = absurd (omega arith)
cancelled-pair zero (x ∷ []) a b less here next pair = absurd (omega arith)
cancelled-pair zero (x ∷ y ∷ xs) a b less here next pair = ap (λ t. cond t (Some xs) None) (sym (ap (λ z. is_pair z y) here) ∙ (sym (ap (is_pair a) next) ∙ pair)) ∙ ap Some (nothing xs)
  where
    nothing : (xs : List Entry) → xs ≡ drop 0 xs
    nothing [] = refl
    nothing (z ∷ xs) = refl
cancelled-pair (suc at) (x ∷ xs) a b less here next pair = ap (option_map (λ ys. x ∷ ys)) (cancelled-pair at xs a b (omega arith) here next pair)
