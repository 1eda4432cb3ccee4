-- The whole paths of a choice, alternative by alternative.
use Rattle.std.proofs.Common.{◌≡◌, ℕ, ◌+◌, ◌<◌, ◌≤◌, zero, suc, List, [], ◌∷◌, ◌++◌, length, map, drop, drop-cons, get_or, add-one, ap, ◌∙◌, sym, refl, arith, append_assoc, append-nil}
use Rattle.std.proofs.lemmas.List.{drop_all, map-append}
use Rattle.process_tree.specs.declared.step.Step.{Step}
use Rattle.process_tree.specs.declared.block.Block.{Block}
use Rattle.process_tree.specs.Blocks.{Outline, all_paths, numbers_from, outline, outline_at_end, outline_at_choice}
use Rattle.process_tree.specs.Paths.{paths_from}

-- numbers that are counted from another
pub map-numbers_from : (n m k : ℕ) → map (λ j. n + j) (numbers_from m k) ≡ numbers_from (n + m) k
map-numbers_from n m zero = refl
map-numbers_from n m (suc k) =
    let e : n + (m + 1) ≡ n + m + 1 = omega arith in
    ap (λ xs. (n + m) ∷ xs) (map-numbers_from n (m + 1) k ∙ ap (λ x. numbers_from x k) e)

-- the numbers from 0 on, moved
from_first : (first k : ℕ) → map (λ j. first + j) (numbers_from 0 k) ≡ numbers_from first k
from_first first k =
    let e : first + 0 ≡ first = omega arith in
    map-numbers_from first 0 k ∙ ap (λ x. numbers_from x k) e

-- one number more
pub numbers_from-next : (n k : ℕ) → numbers_from n (k + 1) ≡ numbers_from n k ++ (n + k) ∷ []
numbers_from-next n zero = ap (λ x. x ∷ []) (omega arith)
numbers_from-next n (suc k) =
    let e : n + 1 + k ≡ n + suc k = omega arith in
    let longer : suc k + 1 ≡ suc (k + 1) = omega arith in
    ap (numbers_from n) longer ∙ ap (λ xs. n ∷ xs) (numbers_from-next (n + 1) k ∙ ap (λ x. numbers_from (n + 1) k ++ x ∷ []) e)

-- the whole paths of each, one after another
abbrev pub paths_from_all : List ℕ → ℕ → List Outline → List (List ℕ)
paths_from_all before n [] = []
paths_from_all before n (o ∷ os) = paths_from before n o ++ paths_from_all before (n + length o.steps) os

-- a path behind a path
moved : (before own p : List ℕ) (first n : ℕ) →
    before ++ map (λ k. first + k) (own ++ map (λ k. n + k) p) ≡ (before ++ map (λ k. first + k) own) ++ map (λ k. first + n + k) p
moved before own p first n =
    ap (λ xs. before ++ xs) (map-append (λ k. first + k) own (map (λ k. n + k) p) ∙ ap (λ xs. map (λ k. first + k) own ++ xs) (twice p))
    ∙ sym (append_assoc before (map (λ k. first + k) own) (map (λ k. first + n + k) p))
  where
    twice : (p : List ℕ) → map (λ k. first + k) (map (λ k. n + k) p) ≡ map (λ k. first + n + k) p
    twice [] = refl
    twice (x ∷ p) =
        let e : first + (n + x) ≡ first + n + x = omega arith in
        ap (λ y. y ∷ map (λ k. first + k) (map (λ k. n + k) p)) e ∙ ap (λ xs. (first + n + x) ∷ xs) (twice p)

-- the whole paths of a choice are those of its blocks
pub paths_from-choice : (before own : List ℕ) (first n : ℕ) (os : List Outline) →
    map (λ p. before ++ map (λ k. first + k) p) (all_paths own n os) ≡ paths_from_all (before ++ map (λ k. first + k) own) (first + n) os
paths_from-choice before own first n [] = refl
paths_from-choice before own first n (o ∷ os) =
    let f : List ℕ → List ℕ = λ p. before ++ map (λ k. first + k) p in
    let e : first + (n + length o.steps) ≡ first + n + length o.steps = omega arith in
    map-append f (map (λ p. own ++ map (λ k. n + k) p) o.paths) (all_paths own (n + length o.steps) os)
    ∙ ap (λ xs. xs ++ map f (all_paths own (n + length o.steps) os)) (each o.paths)
    ∙ ap (λ xs. paths_from (before ++ map (λ k. first + k) own) (first + n) o ++ xs) (paths_from-choice before own first (n + length o.steps) os ∙ ap (λ x. paths_from_all (before ++ map (λ k. first + k) own) x os) e)
  where
    each : (ps : List (List ℕ)) → map (λ p. before ++ map (λ k. first + k) p) (map (λ p. own ++ map (λ k. n + k) p) ps) ≡ map (λ p. (before ++ map (λ k. first + k) own) ++ map (λ k. first + n + k) p) ps
    each [] = refl
    each (p ∷ ps) = ap (λ q. q ∷ map (λ p. before ++ map (λ k. first + k) p) (map (λ p. own ++ map (λ k. n + k) p) ps)) (moved before own p first n) ∙ ap (λ qs. ((before ++ map (λ k. first + k) own) ++ map (λ k. first + n + k) p) ∷ qs) (each ps)

-- the whole path of steps with nothing behind them
pub paths_from-end : (before : List ℕ) (first : ℕ) (steps : List Step) → paths_from before first (outline_at_end steps) ≡ (before ++ numbers_from first (length steps)) ∷ []
paths_from-end before first steps = ap (λ xs. (before ++ xs) ∷ []) (from_first first (length steps))

-- the same of a choice
pub paths_from-at_choice : (before : List ℕ) (first : ℕ) (steps : List Step) (os : List Outline) → paths_from before first (outline_at_choice steps os) ≡ paths_from_all (before ++ numbers_from first (length steps)) (first + length steps) os
paths_from-at_choice before first steps os =
    paths_from-choice before (numbers_from 0 (length steps)) first (length steps) os
    ∙ ap (λ xs. paths_from_all (before ++ xs) (first + length steps) os) (from_first first (length steps))

-- a process's own paths
pub paths_from-none : (o : Outline) → paths_from [] 0 o ≡ o.paths
paths_from-none o = each o.paths
  where
    same : (p : List ℕ) → map (λ k. 0 + k) p ≡ p
    same [] = refl
    same (x ∷ p) = ap (λ xs. (0 + x) ∷ xs) (same p) ∙ ap (λ y. y ∷ p) (omega arith)

    each : (ps : List (List ℕ)) → map (λ p. [] ++ map (λ k. 0 + k) p) ps ≡ ps
    each [] = refl
    each (p ∷ ps) = ap (λ q. q ∷ map (λ p. [] ++ map (λ k. 0 + k) p) ps) (same p) ∙ ap (λ qs. p ∷ qs) (each ps)

-- the paths of one block more
pub one_more : (own : List ℕ) (next after : ℕ) (bs : List Block) (i : ℕ) (b : Block) (old new start : List (List ℕ)) → i < length bs → b ≡ get_or bs i b → after ≡ next + length (outline b).steps → new ≡ old ++ paths_from own next (outline b) → old ++ paths_from_all own next (map outline (drop i bs)) ≡ start → new ++ paths_from_all own after (map outline (drop (i + 1) bs)) ≡ start
one_more own next after bs i b old new start lt is behind more whole =
    let item : drop i bs ≡ b ∷ drop (i + 1) bs = rw (add-one, drop-cons bs i b, ← is) refl in
    let rest = paths_from_all own after (map outline (drop (i + 1) bs)) in
    ap (λ xs. xs ++ rest) more
    ∙ append_assoc old (paths_from own next (outline b)) rest
    ∙ ap (λ n. old ++ (paths_from own next (outline b) ++ paths_from_all own n (map outline (drop (i + 1) bs)))) behind
    ∙ sym (ap (λ xs. old ++ paths_from_all own next (map outline xs)) item)
    ∙ whole

-- there are no more blocks
pub no_more : (own : List ℕ) (next : ℕ) (bs : List Block) (i : ℕ) (old start : List (List ℕ)) → length bs ≤ i → old ++ paths_from_all own next (map outline (drop i bs)) ≡ start → old ≡ start
no_more own next bs i old start le whole =
    sym (append-nil old) ∙ sym (ap (λ xs. old ++ paths_from_all own next (map outline xs)) (drop_all i bs le)) ∙ whole
