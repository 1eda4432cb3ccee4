-- A file that is read on and on up to its end.
use Rattle.std.proofs.Common.{◌≡◌, ◌+◌, ◌≤◌, ◌<◌, ℕ, List, ◌++◌, length, take, drop, min, sym, ◌∙◌, ap, arith, length-append}
use Rattle.std.proofs.lemmas.List.{length-drop}
use Rattle.std.proofs.Math.Seq.{take-add, take-append-add, take-append_seam}

-- what was read, with the part that was read behind it
pub with_part : (front buf rest : List ℕ) (n : ℕ) → n ≡ length front + length buf → take n (front ++ buf ++ rest) ≡ front ++ buf
with_part front buf rest n whole =
    ap (λ m. take m (front ++ buf ++ rest)) (whole ∙ sym (length-append front buf)) ∙ take-append_seam (front ++ buf) rest

-- the bytes of a file up to a place, and those behind it
pub read_on : (file front buf : List ℕ) (count n : ℕ) → count ≡ length front → front ≡ take count file → take n buf ≡ take n (drop count file)
    → take (count + n) (front ++ buf) ≡ take (count + n) file
read_on file front buf count n up_to is part =
    ap (λ m. take (m + n) (front ++ buf)) up_to ∙ take-append-add front buf n ∙ ap (λ more. front ++ more) part
    ∙ ap (λ v. v ++ take n (drop count file)) is ∙ sym (take-add count n file)

-- a part that doesn't fill the buffer goes up to the end
pub at_end : (file : List ℕ) (count n size : ℕ) → count ≤ length file → n ≡ min size (length (drop count file)) → n < size → count + n ≡ length file
at_end file count n size low is short = omega (arith, length-drop count file)
