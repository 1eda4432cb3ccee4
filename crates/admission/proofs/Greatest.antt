-- The greatest number whose flag is set, taken from the end of the list.
use Rattle.std.proofs.Common.{◌≡◌, ℕ, Bool, true, false, if◌then◌else◌, List, [], ◌∷◌, ◌++◌, Option, None, refl, ap}
use Rattle.process_tree.specs.Shape.{greater}
use Rattle.admission.specs.Admission.{victim}

-- the greater of one, if its flag is set, and of another number
abbrev pub with_flag : ℕ × Bool → Option ℕ → Option ℕ
with_flag b other = if b.1 then greater b.0 other else other

-- the greatest of these, and of another number
abbrev pub victim_or : Option ℕ → List (ℕ × Bool) → Option ℕ
victim_or other [] = other
victim_or other (b ∷ bs) = with_flag b (victim_or other bs)

pub victim_or-push : (other : Option ℕ) (bs : List (ℕ × Bool)) (b : ℕ × Bool) → victim_or other (bs ++ b ∷ []) ≡ victim_or (with_flag b other) bs
victim_or-push other [] b = refl
victim_or-push other (x ∷ bs) b = ap (with_flag x) (victim_or-push other bs b)

pub victim_or-none : (bs : List (ℕ × Bool)) → victim_or None bs ≡ victim bs
victim_or-none [] = refl
victim_or-none (b ∷ bs) = by b.1 refl (victim_or-none bs)
  where
    by : (t : Bool) → b.1 ≡ t → victim_or None bs ≡ victim bs → victim_or None (b ∷ bs) ≡ victim (b ∷ bs)
    by true is rest = rw is (ap (greater b.0) rest)
    by false is rest = rw is rest
