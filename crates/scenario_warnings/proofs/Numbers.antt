-- Lists that are made number by number.
use Rattle.std.proofs.Common.{◌≡◌, ℕ, suc, zero, ◌+◌, ◌-◌, ◌<◌, ◌≤◌, List, ◌++◌, append_assoc, append-nil, sym, ap, ◌∙◌, arith}
use Rattle.std.specs.List.{flat_map}
use Rattle.process_tree.specs.Blocks.{numbers_from}

module _ {A : Type 0} (f : ℕ → List A) where
  step : (b n : ℕ) → b < n → flat_map f (numbers_from b (n - b)) ≡ f b ++ flat_map f (numbers_from (b + 1) (n - (b + 1)))
  step b n low = ap (λ k. flat_map f (numbers_from b k)) (let same : n - b ≡ suc (n - (b + 1)) = omega arith in same)

  -- the next number's are added
  pub one_more : (total out next : List A) (b n : ℕ) → b < n → out ++ flat_map f (numbers_from b (n - b)) ≡ total → next ≡ out ++ f b
      → next ++ flat_map f (numbers_from (b + 1) (n - (b + 1))) ≡ total
  one_more total out next b n low now added =
      ap (λ xs. xs ++ flat_map f (numbers_from (b + 1) (n - (b + 1)))) added
      ∙ (append_assoc out (f b) (flat_map f (numbers_from (b + 1) (n - (b + 1)))) ∙ (ap (λ xs. out ++ xs) (sym (step b n low)) ∙ now))

  -- and behind the last there are no more
  pub all_there : (total out : List A) (b n : ℕ) → n ≤ b → out ++ flat_map f (numbers_from b (n - b)) ≡ total → out ≡ total
  all_there total out b n high now =
      sym (append-nil out) ∙ (ap (λ k. out ++ flat_map f (numbers_from b k)) (let none : zero ≡ n - b = omega arith in none) ∙ now)

  -- what was there before, and of some numbers
  pub whole : (out old u : List A) (a n m : ℕ) → out ≡ (old ++ u) ++ flat_map f (numbers_from a (n - a)) → n ≡ m → out ≡ old ++ (u ++ flat_map f (numbers_from a (m - a)))
  whole out old u a n m is same = is ∙ (append_assoc old u (flat_map f (numbers_from a (n - a))) ∙ ap (λ k. old ++ (u ++ flat_map f (numbers_from a (k - a)))) same)
