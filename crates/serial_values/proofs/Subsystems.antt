-- Subsystems one after another.
use Rattle.std.proofs.Common.{◌≡◌, ◌<◌, ◌+◌, ◌-◌, ◌∙◌, ◌++◌, suc, ℕ, List, [], ◌∷◌, Result, Ok, Err, refl, sym, ap, append_assoc, arith}
use Rattle.std.specs.Prelude.{OnOk}
use Rattle.process_tree.specs.Blocks.{numbers_from}
use Rattle.process_text.specs.Canonical.{line_of}
use Rattle.process_report.specs.Lines.{Line, text_of}

-- of the numbers from one on to a bound, it is the first
pub numbers-more : (q n : ℕ) → q < n → numbers_from q (n - q) ≡ q ∷ numbers_from (q + 1) (n - (q + 1))
numbers-more q n less = let more : n - q ≡ suc (n - (q + 1)) = omega (arith, less) in ap (numbers_from q) more

-- the text of lines, and of further ones
pub text-append : (xs ys : List Line) → text_of (xs ++ ys) ≡ text_of xs ++ text_of ys
text-append [] ys = refl
text-append (x ∷ xs) ys = ap (λ t. line_of x ++ t) (text-append xs ys) ∙ sym (append_assoc (line_of x) (text_of xs) (text_of ys))

-- what is so of an answer that is Ok, and what follows of it
pub on_ok : {T E : Type 0} (r : Result T E) (P Q : Type 0) → (P → Q) → OnOk r P → OnOk r Q
on_ok (Ok x) P Q then is = then is
on_ok (Err e) P Q then is = tt
