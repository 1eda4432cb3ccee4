-- How many steps two lists have in common, counted one by one.
use Rattle.std.proofs.Common.{◌≡◌, ℕ, ◌≤◌, List, [], ◌∷◌, length, drop, refl, ap, ◌∙◌}
use Rattle.std.proofs.lemmas.List.{drop_all}
use Rattle.process_tree.specs.Paths.{shared}

shared-none : (w : List ℕ) → shared w [] ≡ 0
shared-none [] = refl
shared-none (x ∷ w) = refl

-- the path has ended
pub shared-past : (w p : List ℕ) (n : ℕ) → length p ≤ n → shared (drop n w) (drop n p) ≡ 0
shared-past w p n le = ap (shared (drop n w)) (drop_all n p le) ∙ shared-none (drop n w)
