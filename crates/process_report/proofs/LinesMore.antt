-- Lines written one after another.
use Rattle.std.proofs.Common.{◌≡◌, ℕ, suc, ◌+◌, ◌-◌, ◌<◌, Bool, true, false, cond, List, [], ◌∷◌, ◌++◌, append_assoc, append-nil, map, filter, sym, refl, ap, ◌∙◌, arith}
use Rattle.std.proofs.lemmas.Grind.{flat_map-append}
use Rattle.process_tree.specs.Blocks.{numbers_from}
use Rattle.process_text.specs.Canonical.{line_of}
use Rattle.process_report.specs.Lines.{Line, text_of}

-- the next of the numbers up to a count
pub next-number : (n count : ℕ) → n < count → numbers_from n (count - n) ≡ n ∷ numbers_from (n + 1) (count - (n + 1))
next-number n count less = let more : count - n ≡ suc (count - (n + 1)) = omega (arith, less) in ap (numbers_from n) more

-- the first of these lines are written
pub lines-more : (whole first rest : List Line) (old new all : List ℕ) → whole ≡ first ++ rest → old ++ text_of whole ≡ all → new ≡ old ++ text_of first
    → new ++ text_of rest ≡ all
lines-more whole first rest old new all is so_far written =
    ap (λ t. t ++ text_of rest) written
    ∙ (append_assoc old (text_of first) (text_of rest)
    ∙ (ap (λ t. old ++ t) (sym (ap text_of is ∙ flat_map-append line_of first rest)) ∙ so_far))

-- so is one line
pub line-more : (whole rest : List Line) (line : Line) (old new all : List ℕ) → whole ≡ line ∷ rest → old ++ text_of whole ≡ all → new ≡ old ++ line_of line
    → new ++ text_of rest ≡ all
line-more whole rest line old new all is so_far written =
    lines-more whole (line ∷ []) rest old new all is so_far (written ∙ ap (λ t. old ++ t) (sym (append-nil (line_of line))))

-- the lines of the numbers that pass: that of the first, if it passes, and those of the others
pub passed-first : (f : ℕ → Line) (p : ℕ → Bool) (n : ℕ) (ns : List ℕ) → map f (filter p (n ∷ ns)) ≡ cond (p n) (f n ∷ []) [] ++ map f (filter p ns)
passed-first f p n ns = by (p n)
  where
    by : (b : Bool) → map f (cond b (n ∷ filter p ns) (filter p ns)) ≡ cond b (f n ∷ []) [] ++ map f (filter p ns)
    by true = refl
    by false = refl
