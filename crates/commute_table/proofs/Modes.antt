-- The modes of a version, which a table has and keeps.
use Rattle.std.proofs.Common.{◌≡◌, ℕ, zero, suc, ◌-◌, min, max, Bool, true, List, [], ◌∷◌, get_or, refl}
use Rattle.std.specs.Prelude.{replicate, slice_set}
use Rattle.std.specs.List.{list_all}
use Rattle.std.proofs.lemmas.Bool.{and_parts, and_from}
use Rattle.process_tree.specs.declared.conflicts.Mode.{Mode}
use Rattle.process_tree.specs.declared.conflicts.Mode.TheVariants.{Never}
use Rattle.process_tree.specs.Conflicts.{Table, no_conflicts, with_mode}
use Rattle.commute_table.specs.Operations.{has_mode, has_modes}

pub has_never : (version n : ℕ) → list_all (has_mode version) (replicate n Never) ≡ true
has_never version zero = refl
has_never version (suc n) = has_never version n

-- each version has the modes of an empty table
pub has_modes-no_conflicts : (version n : ℕ) → has_modes version (no_conflicts n) ≡ true
has_modes-no_conflicts version zero = refl
has_modes-no_conflicts version (suc n) = and_from _ _ (has_never version (suc n)) (has_modes-no_conflicts version n)

-- what holds of each element still does with another one put in, if it holds of that
all_set : {X : Type 0} (p : X → Bool) (xs : List X) (i : ℕ) (x : X) → list_all p xs ≡ true → p x ≡ true → list_all p (slice_set xs i x) ≡ true
all_set p [] i x all ok = refl
all_set p (y ∷ xs) zero x all ok = and_from (p x) (list_all p xs) ok (and_parts (p y) (list_all p xs) all).1
all_set p (y ∷ xs) (suc i) x all ok =
    let is = and_parts (p y) (list_all p xs) all in
    and_from (p y) (list_all p (slice_set xs i x)) is.0 (all_set p xs i x is.1 ok)

all_get : {X : Type 0} (p : X → Bool) (xs : List X) (i : ℕ) (d : X) → list_all p xs ≡ true → p d ≡ true → p (get_or xs i d) ≡ true
all_get p [] i d all ok = ok
all_get p (y ∷ xs) zero d all ok = (and_parts (p y) (list_all p xs) all).0
all_get p (y ∷ xs) (suc i) d all ok = all_get p xs i d (and_parts (p y) (list_all p xs) all).1 ok

-- and of a table with one of its modes put in
pub has_modes-with_mode : (version : ℕ) (t : Table) (a b : ℕ) (mode : Mode) → has_modes version t ≡ true → has_mode version mode ≡ true → has_modes version (with_mode t a b mode) ≡ true
has_modes-with_mode version t a b mode has ok =
    let row = get_or t (min a b) [] in
    let row_has : list_all (has_mode version) row ≡ true = all_get (list_all (has_mode version)) t (min a b) [] has refl in
    all_set (list_all (has_mode version)) t (min a b) (slice_set row (max a b - min a b) mode) has (all_set (has_mode version) row (max a b - min a b) mode row_has ok)
