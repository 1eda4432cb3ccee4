-- Steps by their names.
use Rattle.std.proofs.Common.{◌≡◌, ◌∙◌, ℕ, ◌+◌, zero, suc, Bool, List, [], ◌∷◌, drop, map, if◌then◌else◌, Some, ap, sym, add-one}
use Rattle.std.specs.List.{slice_get}
use Rattle.process_tree.specs.Making.{same_text}
use Rattle.process_tree.specs.declared.step.Step.{Step}
use Rattle.audit_text.specs.Logs.{place_from}

-- the names of steps
abbrev names : List Step → List (List ℕ)
names steps = map (λ s. s.name) steps

-- from a step on, its name is the first
names_from : (steps : List Step) (n : ℕ) (s : Step) → slice_get steps n ≡ Some s → drop n (names steps) ≡ s.name ∷ drop (suc n) (names steps)
names_from [] n s is = absurd cc
names_from (t ∷ steps) zero s is = ap (λ (x : Step). x.name ∷ names steps) some_is
  where
    some_is : t ≡ s
    some_is = cc
names_from (t ∷ steps) (suc n) s is = names_from steps n s is

-- it is the one that is looked for, or is passed
pub named_next : (name : List ℕ) (steps : List Step) (n : ℕ) (s : Step) (same : Bool) → slice_get steps n ≡ Some s → same_text s.name name ≡ same
    → place_from n name (drop n (names steps)) ≡ (if same then Some n else place_from (n + 1) name (drop (n + 1) (names steps)))
named_next name steps n s same at is =
    ap (place_from n name) (names_from steps n s at)
    ∙ (ap (λ b. if b then Some n else place_from (n + 1) name (drop (suc n) (names steps))) is ∙ ap (λ m. if same then Some n else place_from (n + 1) name (drop m (names steps))) (sym (add-one n)))
