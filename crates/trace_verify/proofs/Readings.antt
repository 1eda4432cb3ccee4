-- The reading of a text, a line further on.
use Rattle.std.proofs.Common.{◌≡◌, ℕ, ◌+◌, ◌≤◌, List, [], ◌∷◌, length, nat_eq, Some, None, refl, ap, ◌∙◌, arith}
use Rattle.std.proofs.lemmas.List.Splits.{length-slice_split}
use Rattle.trace_verify.specs.Lines.{cut, parts}
use Rattle.trace_verify.specs.Reports.{Report, at_end, on_or_bad, after_line, reading_from}
use Rattle.trace_verify.proofs.Cuts.{parts-none, parts-some}

more_lines : (r : Report) (n : ℕ) (line : List ℕ) (lines : List (List ℕ)) → 1 ≤ length lines
    → reading_from r n (line ∷ lines) ≡ on_or_bad n (λ s. reading_from s (n + 1) lines) (after_line r line)
more_lines r n line [] some = absurd (omega arith)
more_lines r n line (next ∷ lines) some = refl

-- a text has one part at least
pub some_parts : (b : ℕ) (text : List ℕ) → 1 ≤ length (parts b text)
some_parts b text = let long = length-slice_split (λ c. nat_eq c b) text in omega (arith, long)

-- a line that ends with a line feed is taken, or it is the first bad one
pub reading-line : (r : Report) (n : ℕ) (rest line behind : List ℕ) → cut 10 rest ≡ Some (line, behind)
    → reading_from r n (parts 10 rest) ≡ on_or_bad n (λ s. reading_from s (n + 1) (parts 10 behind)) (after_line r line)
reading-line r n rest line behind e = ap (reading_from r n) (parts-some 10 rest line behind e) ∙ more_lines r n line (parts 10 behind) (some_parts 10 behind)

-- what stands behind the last line feed
pub reading-end : (r : Report) (n : ℕ) (rest : List ℕ) → cut 10 rest ≡ None → reading_from r n (parts 10 rest) ≡ at_end r n r.section rest
reading-end r n rest e = ap (reading_from r n) (parts-none 10 rest e)
