-- Arrows that lead alike give one order.
use Rattle.std.proofs.Common.{◌≡◌, ℕ, zero, suc, not, if◌then◌else◌, Option, Some, None, List, [], ◌∷◌, filter, nat_eq, refl, ap, ◌∙◌}
use Rattle.std.specs.List.{list_any}
use Rattle.schedule_model.specs.Graph.{Arrow}
use Rattle.schedule_rules.proofs.ListTests.{any-same}
use Rattle.dependence_model.specs.SerialOrder.{first_free, then_others, ordered}

module _ (a b : Arrow) (same : (i j : ℕ) → a i j ≡ b i j) where
  first_free-same : (all is : List ℕ) → first_free a all is ≡ first_free b all is
  first_free-same all [] = refl
  first_free-same all (i ∷ is) =
      ap (λ t. if t then first_free a all is else Some i) (any-same (λ j. a j i) (λ j. b j i) all (λ j among. same j i))
      ∙ ap (λ o. if list_any (λ j. b j i) all then o else Some i) (first_free-same all is)

  then-same : (f g : List ℕ → List ℕ) → ((is : List ℕ) → f is ≡ g is) → (all : List ℕ) (o : Option ℕ) → then_others f all o ≡ then_others g all o
  then-same f g alike all None = refl
  then-same f g alike all (Some i) = ap (λ is. i ∷ is) (alike (filter (λ k. not (nat_eq k i)) all))

  pub ordered-same : (n : ℕ) (all : List ℕ) → ordered n a all ≡ ordered n b all
  ordered-same zero all = refl
  ordered-same (suc n) all =
      then-same (ordered n a) (ordered n b) (λ is. ordered-same n is) all (first_free a all all)
      ∙ ap (λ o. then_others (ordered n b) all o) (first_free-same all all)
