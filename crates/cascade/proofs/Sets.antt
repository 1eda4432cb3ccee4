-- A set by its marks: who is listed is who is marked.
use Rattle.std.proofs.Common.{◌≡◌, ℕ, zero, suc, ◌+◌, ◌<◌, Bool, true, false, List, [], ◌∷◌, sym, refl, ap, ◌∙◌, arith, if◌then◌else◌}
use Rattle.std.specs.Prelude.{replicate}
use Rattle.std.proofs.lemmas.Bool.{eq-eqb, ne_eqb}
use Rattle.schedule_model.specs.Histories.{is_in}
use Rattle.cascade.specs.declared.marks.Mark.{Mark}
use Rattle.cascade.specs.declared.marks.Mark.TheVariants.{Out}
use Rattle.cascade.specs.Sets.{is_marked, listed, marked}

-- whoever is listed has a number from n on
low : (n k : ℕ) (marks : List Mark) → k < n → is_in k (listed n marks) ≡ false
low n k [] less = refl
low n k (m ∷ marks) less = by (is_marked m) (low (n + 1) k marks (omega (arith, less)))
  where
    by : (t : Bool) → is_in k (listed (n + 1) marks) ≡ false → is_in k (if t then n ∷ listed (n + 1) marks else listed (n + 1) marks) ≡ false
    by true rest = rw (ne_eqb k n (λ same. let no : k < k = omega (arith, same, less) in omega (arith, no)), rest) refl
    by false rest = rest

-- who is listed is who is marked
pub listed-marked : (n k : ℕ) (marks : List Mark) → is_in (n + k) (listed n marks) ≡ marked marks k
listed-marked n k [] = refl
listed-marked n zero (m ∷ marks) = by (is_marked m) (low (n + 1) (n + 0) marks (omega arith))
  where
    by : (t : Bool) → is_in (n + 0) (listed (n + 1) marks) ≡ false → is_in (n + 0) (if t then n ∷ listed (n + 1) marks else listed (n + 1) marks) ≡ t
    by true none = rw (eq-eqb (n + 0) n (omega arith)) refl
    by false none = none
listed-marked n (suc k) (m ∷ marks) = by (is_marked m) (ap (λ i. is_in i (listed (n + 1) marks)) place ∙ listed-marked (n + 1) k marks)
  where
    place : n + suc k ≡ (n + 1) + k
    place = omega arith

    by : (t : Bool) → is_in (n + suc k) (listed (n + 1) marks) ≡ marked marks k → is_in (n + suc k) (if t then n ∷ listed (n + 1) marks else listed (n + 1) marks) ≡ marked marks k
    by true rest = rw (ne_eqb (n + suc k) n (λ same. omega (arith, same))) rest
    by false rest = rest

pub is_listed : (k : ℕ) (marks : List Mark) → is_in k (listed 0 marks) ≡ marked marks k
is_listed k marks = let same : 0 + k ≡ k = omega arith in sym (ap (λ i. is_in i (listed 0 marks)) same) ∙ listed-marked 0 k marks

-- nobody is listed where all are out
pub none_listed : (count n : ℕ) → listed n (replicate count Out) ≡ []
none_listed zero n = refl
none_listed (suc count) n = none_listed count (n + 1)
